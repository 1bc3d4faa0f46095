use Rattle.std.proofs.Common.{◌≡◌, ◌∙◌, ap, subst, sym}
use Rattle.std.specs.Prelude.{Option, Some, None, option_map}
use Rattle.std.proofs.lemmas.Bool.{false≢true}
use Rattle.std.proofs.lemmas.Option.{same_Some}
use Rattle.dim_rag.specs.declared.command.Command.{Command}
use Rattle.dim_rag.specs.declared.entry.Entry.{Entry}
use Rattle.dim_rag.specs.History.{past}
use Rattle.dim_rag.specs.Shown.{shown}
use Rattle.dim_rag.specs.Tables.{Replay}
use Rattle.dim_gate.specs.Gate.{constants, gate_after}
use Rattle.dim_gate.specs.Answer.{entry_of, MayGive}
use Rattle.dim_gate.specs.Legal.{giver_of, command_of}
use Rattle.dim_trace.proofs.Granting.{may_give, same_asked}
use Rattle.dim_trace.proofs.retrace.asks.Goals as goal

pub act_on-reply-requires-clause-allowed : goal.act_on-reply-requires-clause-allowed
act_on-reply-requires-clause-allowed c =
    let g = c.args.gate.now in
    let e = shown c.args.e.now in
    let caller : c.number_of_caller-caller.result ≡ giver_of g.threads e = c.number_of_caller-caller.ensures ∙ ap (λ n. giver_of n e) (c.threads.ensures.threads ∙ ap (λ (x : Replay). x.threads) c.graph.ensures.graph) in
    subst (λ n. MayGive (constants g) n c.turn_to.new.cmd) (sym caller)
    (subst (λ (x : Command). MayGive (constants g) (giver_of g.threads e) x) (sym c.turn_to.ensures) (may_give (constants g) e c.requires.in_range))

pub returns-in-Some-clause-made : goal.returns-in-Some-clause-made
returns-in-Some-clause-made c =
    let g = c.args.gate.now in
    let e = shown c.args.e.now in
    let asked = same_asked g e c.number_of_caller-caller.result c.turn_to.new.cmd (c.number_of_caller-caller.ensures ∙ ap (λ n. giver_of n e) (c.threads.ensures.threads ∙ ap (λ (x : Replay). x.threads) c.graph.ensures.graph)) c.turn_to.ensures in
    let made : entry_of (constants g) (giver_of g.threads e) (command_of e) (past g.entries) ≡ Some (shown c.in-Some.made) =
    sym asked ∙ sym c.act_on-reply.ensures.told ∙ sym c.by.ensures.entry ∙ ap (option_map shown) c.in-Some.is in
    (λ q. made ∙ ap (λ x. Some x) (c.same_shown.ensures.0 q), λ k. c.same_shown.ensures.1 (same_Some _ _ (sym made ∙ k)))

pub returns-in-None-clause-made : goal.returns-in-None-clause-made
returns-in-None-clause-made c =
    let g = c.args.gate.now in
    let e = shown c.args.e.now in
    let asked = same_asked g e c.number_of_caller-caller.result c.turn_to.new.cmd (c.number_of_caller-caller.ensures ∙ ap (λ n. giver_of n e) (c.threads.ensures.threads ∙ ap (λ (x : Replay). x.threads) c.graph.ensures.graph)) c.turn_to.ensures in
    let none : entry_of (constants g) (giver_of g.threads e) (command_of e) (past g.entries) ≡ None =
    sym asked ∙ sym c.act_on-reply.ensures.told ∙ sym c.by.ensures.entry ∙ ap (option_map shown) c.in-None.is in
    (λ q. absurd (false≢true q), λ k. absurd (let j : None ≡ Some e = sym none ∙ k in cc))

pub returns-in-Some-clause-grown : goal.returns-in-Some-clause-grown
returns-in-Some-clause-grown c =
    let g = c.args.gate.now in
    let e = shown c.args.e.now in
    c.act_on-reply.ensures.entry
    ∙ ap (λ (o : Option Entry). gate_after g o) (same_asked g e c.number_of_caller-caller.result c.turn_to.new.cmd (c.number_of_caller-caller.ensures ∙ ap (λ n. giver_of n e) (c.threads.ensures.threads ∙ ap (λ (x : Replay). x.threads) c.graph.ensures.graph)) c.turn_to.ensures)

pub returns-in-None-clause-grown : goal.returns-in-None-clause-grown
returns-in-None-clause-grown c =
    let g = c.args.gate.now in
    let e = shown c.args.e.now in
    c.act_on-reply.ensures.entry
    ∙ ap (λ (o : Option Entry). gate_after g o) (same_asked g e c.number_of_caller-caller.result c.turn_to.new.cmd (c.number_of_caller-caller.ensures ∙ ap (λ n. giver_of n e) (c.threads.ensures.threads ∙ ap (λ (x : Replay). x.threads) c.graph.ensures.graph)) c.turn_to.ensures)
