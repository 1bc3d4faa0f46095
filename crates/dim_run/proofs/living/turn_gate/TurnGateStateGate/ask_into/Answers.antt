use Rattle.dim_turn.specs.Passes.{start_of}
use Rattle.dim_run.specs.Gates.{known, opening_of}
use Rattle.dim_run.proofs.Callers.{passes_test}
use Rattle.dim_run.proofs.Turned.{asked_of}
use Rattle.dim_run.proofs.living.turn_gate.TurnGateStateGate.ask_into.Goals as goal

pub call_into-requires-clause-allowed : goal.call_into-requires-clause-allowed
call_into-requires-clause-allowed g c = passes_test (opening_of (start_of c.args.self.now)).constants c.args.pass.now.number c.args.cmd.now c.requires.allowed

pub returns-clause-asked : goal.returns-clause-asked
returns-clause-asked g c =
    let k = c.call_into.ensures.calls in
    let p = c.call_into.ensures.pass in
    asked_of (opening_of (start_of c.args.self.now)) (known c.args.pass.now) (known c.call_into.new.pass) c.args.cmd.now c.call_into.new.reply
    k.made k.begins.0 k.given k.begins.1 k.own k.reply_is p.1 p.2 k.after
