use Rattle.std.proofs.Common.{◌-◌, ◌++◌, ◌∷◌, [], ap, sym, ◌∙◌, subst}
use Rattle.std.specs.Prelude.{Some, None}
use Rattle.dim_rag.specs.History.{past}
use Rattle.dim_rag.specs.Shown.{shown}
use Rattle.dim_rag.specs.Tables.{Replay}
use Rattle.dim_gate.specs.Gate.{Gate, gate_at, constants, gate_after}
use Rattle.dim_gate.specs.Invariant.{Knows}
use Rattle.dim_gate.specs.Legal.{IsLegalAfter}
use Rattle.dim_gate.proofs.Fitting.{fits_after}
use Rattle.dim_gate.proofs.lean_gate.LeanGate.enter.Goals as goal

pub take_in-requires-clause-legal : goal.take_in-requires-clause-legal
take_in-requires-clause-legal c = subst (λ (x : Gate). IsLegalAfter (constants x) (past x.entries) (shown c.args.e.now)) (sym c.self.view_is) c.requires.legal

pub enter_ref-requires-clause-in_range : goal.enter_ref-requires-clause-in_range
enter_ref-requires-clause-in_range c = (subst (λ (x : Gate). IsLegalAfter (constants x) (past x.entries) (shown c.args.e.now)) (sym c.self.view_is) c.requires.legal).in_range

pub enter_ref-requires-clause-fits : goal.enter_ref-requires-clause-fits
enter_ref-requires-clause-fits c =
    let g : Gate = gate_at c.self.inside.graph c.self.inside.knowledge None in
    fits_after (constants g) (past g.entries) (shown c.args.e.now) c.len-few.ensures.in_range c.len-few.ensures.fits
    (subst (λ (x : Gate). IsLegalAfter (constants x) (past x.entries) (shown c.args.e.now)) (sym c.self.view_is) c.requires.legal)

pub invariant_of-self : goal.invariant_of-self
invariant_of-self c = subst (λ (r : Replay). Knows r c.take_in.new.self) (sym c.enter_ref.ensures) (c.take_in.ensures.knows (c.self.inside.graph.spare - 1))

pub returns : goal.returns
returns c =
    let i = c.self.inside in
    let e = shown c.args.e.now in
    let r : Replay = record i.graph { entries = i.graph.entries ++ e ∷ []; spare = i.graph.spare - 1 } in
    ap (λ (x : Replay). gate_at x c.take_in.new.self None) c.enter_ref.ensures
    ∙ c.take_in.ensures.same r None
    ∙ ap (λ (x : Gate). gate_after x (Some e)) c.self.view_is
