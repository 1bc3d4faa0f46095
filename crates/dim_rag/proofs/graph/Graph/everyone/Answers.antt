use Rattle.std.proofs.Common.{arith}
use Rattle.std.specs.Int.{bit_at}
use Rattle.std.proofs.lemmas.Bool.{eq-eqb}
use Rattle.std.proofs.lemmas.Nat.Bits.{bit_at_ones}
use Rattle.dim_rag.proofs.graph.Graph.everyone.Goals as goal

pub returns : goal.returns
returns c = λ t lt. eq-eqb (bit_at 4294967295 t) 1 (bit_at_ones 32 t (omega (arith, c.self.invariant.few_threads, rw (← c.self.view_is) at lt)))
