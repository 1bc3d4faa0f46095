use Rattle.std.proofs.Common.{◌-◌, ◌++◌, ◌∷◌, [], sym, subst}
use Rattle.std.specs.Prelude.{None}
use Rattle.dim_rag.specs.History.{past}
use Rattle.dim_rag.specs.Shown.{shown}
use Rattle.dim_rag.specs.Tables.{Replay}
use Rattle.dim_gate.specs.Gate.{Gate, gate_at, constants}
use Rattle.dim_gate.specs.Invariant.{Knows}
use Rattle.dim_gate.specs.Legal.{IsLegalAfter}
use Rattle.dim_gate.proofs.Fitting.{fits_after}
use Rattle.dim_gate.proofs.knowledge.Knowledge.enter.Goals as goal

pub take_in-requires-clause-knows : goal.take_in-requires-clause-knows
take_in-requires-clause-knows c = subst (λ (r : Replay). Knows r c.args.self.now) (sym c.graph.ensures) c.requires.knows

pub take_in-requires-clause-legal : goal.take_in-requires-clause-legal
take_in-requires-clause-legal c =
    subst (λ (r : Replay). IsLegalAfter (constants (gate_at r c.args.self.now None)) (past r.entries) (shown c.args.e.now)) (sym c.graph.ensures) c.requires.legal

pub enter_ref-requires-clause-in_range : goal.enter_ref-requires-clause-in_range
enter_ref-requires-clause-in_range c = c.requires.legal.in_range

pub enter_ref-requires-clause-fits : goal.enter_ref-requires-clause-fits
enter_ref-requires-clause-fits c =
    let g : Gate = gate_at c.args.tables.now c.args.self.now None in
    fits_after (constants g) (past g.entries) (shown c.args.e.now) c.len-few.ensures.in_range c.len-few.ensures.fits c.requires.legal

pub returns-clause-knows : goal.returns-clause-knows
returns-clause-knows c =
    let e = shown c.args.e.now in
    let t : Replay = c.args.tables.now in
    let after = c.take_in.new.self in
    subst (λ (r : Replay). Knows r after) (sym c.enter_ref.ensures)
    (subst (λ (r : Replay). Knows record r { entries = r.entries ++ e ∷ []; spare = t.spare - 1 } after) c.graph.ensures (c.take_in.ensures.knows (t.spare - 1)))
