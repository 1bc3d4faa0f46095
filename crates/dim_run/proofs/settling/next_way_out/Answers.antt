use Rattle.std.proofs.Common.{◌≡◌, ◌≤◌, ℕ, List, ap, sym, ◌∙◌, subst, arith}
use Rattle.std.specs.Prelude.{Some, None, option_map}
use Rattle.dim_base.specs.declared.Tid.{Tid}
use Rattle.dim_rag.specs.declared.entry.Entry.{Entry}
use Rattle.dim_rag.specs.History.{past}
use Rattle.dim_rag.specs.Stuck.{IsGreatest, choice}
use Rattle.dim_rag.specs.Tables.{Replay}
use Rattle.dim_gate.specs.Gate.{Gate, constants}
use Rattle.dim_gate.specs.Known.{known_sigs}
use Rattle.dim_gate.proofs.Exports.{none_chosen}
use Rattle.dim_run.proofs.Rested.{no_way_out_told}
use Rattle.dim_run.proofs.SettleLoop.{twin_is, way_out_told}
use Rattle.dim_run.proofs.settling.next_way_out.Goals as goal

pub returns-then-not-has_yielding : goal.returns-then-not-has_yielding
returns-then-not-has_yielding c = no_way_out_told c.args.gate.now c.args.monitor.now c.graph-2.result.now c.graph-2.ensures c.requires.twin (c.has_yielding.ensures c.if-not-has_yielding.true)

pub returns-in_err-t : goal.returns-in_err-t
returns-in_err-t c =
    let g : Gate = c.args.gate.now in
    let m : Replay = c.args.monitor.now in
    let few : m.threads ≤ 32 = subst (λ (x : Replay). x.threads ≤ 32) c.graph.ensures (omega (arith, c.threads-few.ensures.threads, c.threads-few.ensures.few)) in
    let chosen : None ≡ choice c.stuck-set.result m.locks (past m.entries) m.threads =
    ap (option_map (λ (t : Tid). t.0)) (sym c.in_err-t.was) ∙ c.choice.ensures ∙ ap (λ (x : Replay). choice c.stuck-set.result x.locks (past x.entries) x.threads) c.graph-3.ensures in
    let here : None ≡ choice c.stuck-set.result g.locks (past g.entries) g.threads =
    twin_is g m c.requires.twin (λ (n k : ℕ) (h : List Entry). None ≡ choice c.stuck-set.result k h n) chosen in
    c.from_residual.ensures
    ∙ way_out_told c.greatest_law.ensures c.greatest_stuck_law.ensures (constants g) (past g.entries) (subst (λ (n : ℕ). n ≤ 32) c.requires.twin.threads few) c.stuck-set.result
    (twin_is g m c.requires.twin (λ (n k : ℕ) (h : List Entry). IsGreatest n k h c.stuck-set.result) c.stuck-set.ensures.greatest)
    None here None (sym (none_chosen g.threads g.locks g.cap (known_sigs g.loaded g.depth (past g.entries)) (past g.entries) c.stuck-set.result (sym here)))

pub returns-in-Some : goal.returns-in-Some
returns-in-Some c =
    let g : Gate = c.args.gate.now in
    let m : Replay = c.args.monitor.now in
    let few : m.threads ≤ 32 = subst (λ (x : Replay). x.threads ≤ 32) c.graph.ensures (omega (arith, c.threads-few.ensures.threads, c.threads-few.ensures.few)) in
    let chosen : Some c.in_ok-t.t.0 ≡ choice c.stuck-set.result m.locks (past m.entries) m.threads =
    ap (option_map (λ (t : Tid). t.0)) (sym c.in_ok-t.was) ∙ c.choice.ensures ∙ ap (λ (x : Replay). choice c.stuck-set.result x.locks (past x.entries) x.threads) c.graph-3.ensures in
    way_out_told c.greatest_law.ensures c.greatest_stuck_law.ensures (constants g) (past g.entries) (subst (λ (n : ℕ). n ≤ 32) c.requires.twin.threads few) c.stuck-set.result
    (twin_is g m c.requires.twin (λ (n k : ℕ) (h : List Entry). IsGreatest n k h c.stuck-set.result) c.stuck-set.ensures.greatest)
    (Some c.in_ok-t.t.0) (twin_is g m c.requires.twin (λ (n k : ℕ) (h : List Entry). Some c.in_ok-t.t.0 ≡ choice c.stuck-set.result k h n) chosen)
    (Some c.in-Some.starvation) (sym c.in-Some.is ∙ c.unlearnt.ensures)

pub returns-in-None : goal.returns-in-None
returns-in-None c =
    let g : Gate = c.args.gate.now in
    let m : Replay = c.args.monitor.now in
    let few : m.threads ≤ 32 = subst (λ (x : Replay). x.threads ≤ 32) c.graph.ensures (omega (arith, c.threads-few.ensures.threads, c.threads-few.ensures.few)) in
    let chosen : Some c.in_ok-t.t.0 ≡ choice c.stuck-set.result m.locks (past m.entries) m.threads =
    ap (option_map (λ (t : Tid). t.0)) (sym c.in_ok-t.was) ∙ c.choice.ensures ∙ ap (λ (x : Replay). choice c.stuck-set.result x.locks (past x.entries) x.threads) c.graph-3.ensures in
    way_out_told c.greatest_law.ensures c.greatest_stuck_law.ensures (constants g) (past g.entries) (subst (λ (n : ℕ). n ≤ 32) c.requires.twin.threads few) c.stuck-set.result
    (twin_is g m c.requires.twin (λ (n k : ℕ) (h : List Entry). IsGreatest n k h c.stuck-set.result) c.stuck-set.ensures.greatest)
    (Some c.in_ok-t.t.0) (twin_is g m c.requires.twin (λ (n k : ℕ) (h : List Entry). Some c.in_ok-t.t.0 ≡ choice c.stuck-set.result k h n) chosen)
    None (sym c.in-None.is ∙ c.unlearnt.ensures)
