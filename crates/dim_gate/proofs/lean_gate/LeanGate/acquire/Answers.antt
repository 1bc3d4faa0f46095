use Rattle.std.proofs.Common.{◌≡◌, ◌∙◌, ap, sym, subst}
use Rattle.std.specs.Prelude.{Option}
use Rattle.dim_rag.specs.declared.command.Command.TheVariants.{Acquire}
use Rattle.dim_rag.specs.declared.entry.Entry.{Entry}
use Rattle.dim_rag.specs.declared.entry.Entry.TheVariants.{Got}
use Rattle.dim_rag.specs.History.{past}
use Rattle.dim_gate.specs.Gate.{Gate, constants, gate_after}
use Rattle.dim_gate.specs.Answer.{entry_of, reply_of}
use Rattle.dim_gate.proofs.Polls.{if_so, got, so, nothing, never, always}
use Rattle.dim_gate.proofs.lean_gate.LeanGate.acquire.Goals as goal

pub returns-then-not-is_got-clause-made : goal.returns-then-not-is_got-clause-made
returns-then-not-is_got-clause-made c =
    never (entry_of (constants c.args.self.now) c.args.t.0 (Acquire c.args.l) (past c.args.self.now.entries)) (Got c.args.t c.args.l) c.is_got.result
    (got (constants c.args.self.now) c.args.t c.args.l (past c.args.self.now.entries) c.acquire.result (subst (λ (x : Gate). c.acquire.result ≡ reply_of (constants x) c.args.t.0 (Acquire c.args.l) (past x.entries)) c.self.view_is c.acquire.ensures) ∙ ap (if_so (Got c.args.t c.args.l)) (sym c.is_got.ensures))
    c.if-not-is_got.true

pub returns-then-not-is_got-clause-entry : goal.returns-then-not-is_got-clause-entry
returns-then-not-is_got-clause-entry c =
    ap (λ (o : Option Entry). gate_after c.args.self.now o)
    (sym (nothing (entry_of (constants c.args.self.now) c.args.t.0 (Acquire c.args.l) (past c.args.self.now.entries)) (Got c.args.t c.args.l) c.is_got.result
    (got (constants c.args.self.now) c.args.t c.args.l (past c.args.self.now.entries) c.acquire.result (subst (λ (x : Gate). c.acquire.result ≡ reply_of (constants x) c.args.t.0 (Acquire c.args.l) (past x.entries)) c.self.view_is c.acquire.ensures) ∙ ap (if_so (Got c.args.t c.args.l)) (sym c.is_got.ensures))
    c.if-not-is_got.true))

pub enter-requires-clause-legal : goal.enter-requires-clause-legal
enter-requires-clause-legal c = record {
  in_range = (c.requires.thread, c.requires.lock);
  entry_is = so (entry_of (constants c.args.self.now) c.args.t.0 (Acquire c.args.l) (past c.args.self.now.entries)) (Got c.args.t c.args.l) c.is_got.result
      (got (constants c.args.self.now) c.args.t c.args.l (past c.args.self.now.entries) c.acquire.result (subst (λ (x : Gate). c.acquire.result ≡ reply_of (constants x) c.args.t.0 (Acquire c.args.l) (past x.entries)) c.self.view_is c.acquire.ensures) ∙ ap (if_so (Got c.args.t c.args.l)) (sym c.is_got.ensures))
      c.if-not-is_got.false;
}

pub returns-clause-made : goal.returns-clause-made
returns-clause-made c =
    always (entry_of (constants c.args.self.now) c.args.t.0 (Acquire c.args.l) (past c.args.self.now.entries)) (Got c.args.t c.args.l) c.is_got.result
    (got (constants c.args.self.now) c.args.t c.args.l (past c.args.self.now.entries) c.acquire.result (subst (λ (x : Gate). c.acquire.result ≡ reply_of (constants x) c.args.t.0 (Acquire c.args.l) (past x.entries)) c.self.view_is c.acquire.ensures) ∙ ap (if_so (Got c.args.t c.args.l)) (sym c.is_got.ensures))
    c.if-not-is_got.false

pub returns-clause-entry : goal.returns-clause-entry
returns-clause-entry c =
    c.enter.ensures ∙ ap (λ (o : Option Entry). gate_after c.args.self.now o)
    (sym (so (entry_of (constants c.args.self.now) c.args.t.0 (Acquire c.args.l) (past c.args.self.now.entries)) (Got c.args.t c.args.l) c.is_got.result
    (got (constants c.args.self.now) c.args.t c.args.l (past c.args.self.now.entries) c.acquire.result (subst (λ (x : Gate). c.acquire.result ≡ reply_of (constants x) c.args.t.0 (Acquire c.args.l) (past x.entries)) c.self.view_is c.acquire.ensures) ∙ ap (if_so (Got c.args.t c.args.l)) (sym c.is_got.ensures))
    c.if-not-is_got.false))
