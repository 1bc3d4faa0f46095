use Rattle.dim_execution.specs.Start.{gate_of}
use Rattle.dim_picture.proofs.Telling.{are_told}
use Rattle.dim_picture.proofs.laws.told_law.Goals as goal

pub returns : goal.returns
returns c = λ p loaded depth fuel entries x. are_told (gate_of p loaded depth) entries x.legal
