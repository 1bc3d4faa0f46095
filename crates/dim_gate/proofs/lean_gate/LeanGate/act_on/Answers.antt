use Rattle.std.proofs.Common.{◌≡◌, refl, ap, sym, ◌∙◌, subst}
use Rattle.std.specs.Prelude.{Some, None, Option, option_map}
use Rattle.dim_rag.specs.declared.entry.Entry.{Entry}
use Rattle.dim_rag.specs.History.{past}
use Rattle.dim_rag.specs.Made.{entry_by}
use Rattle.dim_rag.specs.Shown.{shown}
use Rattle.dim_gate.specs.Gate.{Gate, constants, gate_after}
use Rattle.dim_gate.specs.Answer.{reply_of}
use Rattle.dim_gate.specs.Legal.{IsLegalAfter}
use Rattle.dim_gate.proofs.Replied.{made_is}
use Rattle.dim_gate.proofs.Entered.{told}
use Rattle.dim_gate.proofs.lean_gate.LeanGate.act_on.Goals as goal

pub enter-requires-clause-legal : goal.enter-requires-clause-legal
enter-requires-clause-legal c =
    subst (λ (x : Gate). IsLegalAfter (constants x) (past x.entries) (shown c.in-Some.e)) c.self.view_is
    (told c.self.inside.graph c.self.inside.knowledge None c.args.self.now c.args.caller c.args.cmd.now c.decide-reply.result c.by.result c.in-Some.e c.self.view_is c.requires.allowed c.len-few.ensures.in_range c.len-few.ensures.fits c.self.inside.graph refl c.decide-reply.ensures c.by.ensures.entry c.in-Some.is).legal

pub returns-in-Some-clause-reply : goal.returns-in-Some-clause-reply
returns-in-Some-clause-reply c =
    subst (λ (x : Gate). c.decide-reply.result ≡ reply_of (constants x) c.args.caller c.args.cmd.now (past x.entries)) c.self.view_is c.decide-reply.ensures

pub returns-in-Some-clause-entry : goal.returns-in-Some-clause-entry
returns-in-Some-clause-entry c =
    let said : c.decide-reply.result ≡ reply_of (constants c.args.self.now) c.args.caller c.args.cmd.now (past c.args.self.now.entries) =
    subst (λ (x : Gate). c.decide-reply.result ≡ reply_of (constants x) c.args.caller c.args.cmd.now (past x.entries)) c.self.view_is c.decide-reply.ensures in
    let made = made_is (constants c.args.self.now) c.args.caller c.args.cmd.now (past c.args.self.now.entries) c.decide-reply.result (Some (shown c.in-Some.e)) said (sym (ap (option_map shown) c.in-Some.is) ∙ c.by.ensures.entry) in
    c.enter.ensures ∙ ap (λ (o : Option Entry). gate_after c.args.self.now o) (sym made)

pub returns-in_default-clause-entry : goal.returns-in_default-clause-entry
returns-in_default-clause-entry c =
    let said : c.decide-reply.result ≡ reply_of (constants c.args.self.now) c.args.caller c.args.cmd.now (past c.args.self.now.entries) =
    subst (λ (x : Gate). c.decide-reply.result ≡ reply_of (constants x) c.args.caller c.args.cmd.now (past x.entries)) c.self.view_is c.decide-reply.ensures in
    let none = made_is (constants c.args.self.now) c.args.caller c.args.cmd.now (past c.args.self.now.entries) c.decide-reply.result None said (sym (ap (option_map shown) c.in_default.is) ∙ c.by.ensures.entry) in
    ap (λ (o : Option Entry). gate_after c.args.self.now o) (sym none)

pub returns-in-Some-clause-told : goal.returns-in-Some-clause-told
returns-in-Some-clause-told c =
    let said : c.decide-reply.result ≡ reply_of (constants c.args.self.now) c.args.caller c.args.cmd.now (past c.args.self.now.entries) =
    subst (λ (x : Gate). c.decide-reply.result ≡ reply_of (constants x) c.args.caller c.args.cmd.now (past x.entries)) c.self.view_is c.decide-reply.ensures in
    sym (made_is (constants c.args.self.now) c.args.caller c.args.cmd.now (past c.args.self.now.entries) c.decide-reply.result (entry_by record { 0 = c.args.caller } c.args.cmd.now c.decide-reply.result) said refl)

pub returns-in_default-clause-told : goal.returns-in_default-clause-told
returns-in_default-clause-told c =
    let said : c.decide-reply.result ≡ reply_of (constants c.args.self.now) c.args.caller c.args.cmd.now (past c.args.self.now.entries) =
    subst (λ (x : Gate). c.decide-reply.result ≡ reply_of (constants x) c.args.caller c.args.cmd.now (past x.entries)) c.self.view_is c.decide-reply.ensures in
    sym (made_is (constants c.args.self.now) c.args.caller c.args.cmd.now (past c.args.self.now.entries) c.decide-reply.result (entry_by record { 0 = c.args.caller } c.args.cmd.now c.decide-reply.result) said refl)
