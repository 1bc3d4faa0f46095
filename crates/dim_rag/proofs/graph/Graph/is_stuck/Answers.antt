use Rattle.std.proofs.Common.{◌∙◌, sym, ap, arith, ◌<◌, ◌^◌, inl, inr, eqb}
use Rattle.std.proofs.lemmas.Bool.{cases_lt, false≢true}
use Rattle.std.proofs.lemmas.Nat.Bits.{bit_at_above}
use Rattle.dim_rag.specs.History.{past}
use Rattle.dim_rag.specs.Stuck.{IsStuck}
use Rattle.dim_rag.proofs.StuckSets.{stale_none, stale_some}
use Rattle.dim_rag.proofs.graph.Graph.is_stuck.Goals as goal

all_held : (c : goal.After-loop-t) → IsStuck c.args.self.now.threads c.args.self.now.locks (past c.args.self.now.entries) c.args.set
all_held c = λ u q. elim (cases_lt u 32) [
  | inl l ↦ c.loop-t.invariant u (omega arith) q
  | inr l ↦ let f : c.args.set < 2 ^ 32 = omega arith in
      absurd (false≢true (sym (ap (λ n. eqb n 1) (bit_at_above c.args.set 32 u f l)) ∙ q))
]

pub returns-clause-reading : goal.returns-clause-reading
returns-clause-reading c = all_held c

pub returns-clause-value : goal.returns-clause-value
returns-clause-value c = stale_none c.args.self.now.threads c.args.self.now.locks (past c.args.self.now.entries) c.args.set (all_held c)

pub returns-then-not-is_held-clause-value : goal.returns-then-not-is_held-clause-value
returns-then-not-is_held-clause-value c = stale_some c.args.self.now.threads c.args.self.now.locks (past c.args.self.now.entries) c.args.set c.loop-t.t record {
  below = c.loop-t-test.true;
  member = sym c.is_member.ensures ∙ c.if-is_member.true;
  free = sym c.is_held.ensures ∙ c.if-not-is_held.true;
  least = c.loop-t.invariant;
}
