use Rattle.std.proofs.Common.{arith, sym}
use Rattle.std.proofs.lemmas.List.{take_all}
use Rattle.dim_transcribe.proofs.places.innermost.Goals as goal

pub returns-then-spots-le-MOST_SPOTS : goal.returns-then-spots-le-MOST_SPOTS
returns-then-spots-le-MOST_SPOTS c = sym (take_all 30 c.args.spots.now (omega arith))
