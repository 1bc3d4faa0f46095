use Rattle.std.proofs.Common.{◌∙◌, ◌+◌, sym, subst, ℕ}
use Rattle.std.specs.Prelude.{Option}
use Rattle.std.proofs.lemmas.Bool.{ne_eqb, eq-eqb}
use Rattle.dim_rag.specs.Stuck.{edges_in}
use Rattle.dim_rag.specs.History.{past}
use Rattle.dim_rag.proofs.Causes.{GoesOn, goes_skip, goes_take, goes_none}
use Rattle.dim_rag.proofs.graph.Graph.first_cause.Goals as goal
use Rattle.dim_rag.proofs.graph.Graph.first_cause.Goals.{then-birth-place+else-not-is_birth_in, else-birth-place}

pub returns-then-not-is_birth_in : goal.returns-then-not-is_birth_in
returns-then-not-is_birth_in c =
    goes_none (edges_in c.args.set c.args.self.now.threads c.args.self.now.locks (past c.args.self.now.entries)) c.args.place c.args.births.now c.loop-i.i c.at-birth.result c.at-birth.ensures c.loop-i.first
    (ne_eqb _ _ c.if-birth-place.true) (sym c.is_birth_in.ensures ∙ c.if-not-is_birth_in.true) c.loop-i.invariant

pub loop-i-preserved : goal.loop-i-preserved
loop-i-preserved c =
    let es = edges_in c.args.set c.args.self.now.threads c.args.self.now.locks (past c.args.self.now.entries) in
    let P : Option ℕ → Type 0 = λ o. GoesOn es c.args.place c.args.births.now (c.loop-i.i + 1) o in
    elim c.if-birth-place.branch [
      | then-birth-place+else-not-is_birth_in w ↦ subst P (sym (w.first-is ∙ w.or-first.ensures))
          (goes_take es c.args.place c.args.births.now c.loop-i.i c.at-birth.result c.at-birth.ensures c.loop-i.first (ne_eqb _ _ w.if-birth-place.true) (sym w.is_birth_in.ensures ∙ w.if-not-is_birth_in.false) c.loop-i.invariant)
      | else-birth-place w ↦ subst P (sym w.first-is)
          (goes_skip es c.args.place c.args.births.now c.loop-i.i c.at-birth.result c.at-birth.ensures c.loop-i.first (eq-eqb _ _ w.if-birth-place.false) c.loop-i.invariant)
    ]
