use Rattle.std.proofs.Common.{◌≡◌, sym, subst, take, None}
use Rattle.dim_rag.specs.History.{past}
use Rattle.dim_rag.specs.Tables.{Replay}
use Rattle.dim_gate.specs.Gate.{Gate}
use Rattle.dim_gate.specs.Invariant.{Knows}
use Rattle.dim_gate.specs.Known.{known_sigs}
use Rattle.dim_gate.specs.Starved.{learn_fault, is_unlearnt}
use Rattle.dim_gate.proofs.gate.GateState.is_unlearnt.Goals as goal

pub returns : goal.returns
returns c =
    let k = c.self.inside.knowledge in
    let births = c.args.births.now in
    subst (λ (x : Gate). c.is_unlearnt.result ≡ is_unlearnt x.cap (known_sigs x.loaded x.depth (past x.entries)) (past x.entries) births) c.self.view_is
    (subst (λ (r : Replay). c.is_unlearnt.result ≡ is_unlearnt k.cap (known_sigs (take k.loaded k.catalogue.sigs) k.depth (past r.entries)) (past r.entries) births) c.graph.ensures c.is_unlearnt.ensures)

pub is_unlearnt-requires-clause-knows : goal.is_unlearnt-requires-clause-knows
is_unlearnt-requires-clause-knows c = subst (λ (r : Replay). Knows r c.self.inside.knowledge) (sym c.graph.ensures) c.self.invariant.knows

pub is_unlearnt-requires-clause-fault : goal.is_unlearnt-requires-clause-fault
is_unlearnt-requires-clause-fault c =
    subst (λ (r : Replay). learn_fault r.threads r.locks (past r.entries) c.args.births.now ≡ None) (sym c.graph.ensures)
    (subst (λ (x : Gate). learn_fault x.threads x.locks (past x.entries) c.args.births.now ≡ None) (sym c.self.view_is) c.requires)
