use Rattle.std.proofs.Common.{◌≡◌, ◌∙◌, ap, sym, subst, List}
use Rattle.std.specs.Prelude.{None}
use Rattle.dim_rag.specs.declared.command.Command.{Command}
use Rattle.dim_rag.specs.declared.command.Command.TheVariants.{Learn}
use Rattle.dim_rag.specs.History.{past}
use Rattle.dim_signature.specs.Sig.{Sig}
use Rattle.dim_gate.specs.Gate.{Gate, constants, gate_at}
use Rattle.dim_gate.specs.Answer.{answer_by, reply_of}
use Rattle.dim_gate.proofs.knowledge.Knowledge.decide.Goals as goal

pub returns-in-Learn : goal.returns-in-Learn
returns-in-Learn c =
    let g : Gate = gate_at c.args.graph.now c.args.self.now None in
    let h = past c.args.graph.now.entries in
    let births = c.in-Learn.births in
    let known : c.learn.result ≡ reply_of (constants g) c.args.caller (Learn births) h =
    c.learn.ensures ∙ ap (λ (s : List Sig). (answer_by g.threads g.locks g.cap s record { 0 = c.args.caller } (Learn births) h).reply) (sym c.requires.knows.gate.known) in
    subst (λ (x : Command). c.learn.result ≡ reply_of (constants g) c.args.caller x h) (sym c.in-Learn.is) known

pub request-requires-clause-edges : goal.request-requires-clause-edges
request-requires-clause-edges c = c.requires.knows.edges

pub attempt-requires-clause-edges : goal.attempt-requires-clause-edges
attempt-requires-clause-edges c = c.requires.knows.edges
