use Rattle.std.proofs.Common.{rules}
use Rattle.dim_turn.proofs.Steps.{draws}
use Rattle.dim_turn.proofs.turn.Turn.draw.Goals as goal

pub fetch_add-requires : goal.fetch_add-requires
fetch_add-requires g c = (search rules, search rules, draws _ _ _ _ _ c.requires.idle)
