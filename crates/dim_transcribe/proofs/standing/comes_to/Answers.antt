use Rattle.dim_transcribe.proofs.Followed.{calls_there, rests}
use Rattle.dim_transcribe.proofs.standing.comes_to.Goals as goal

pub returns-clause-stands : goal.returns-clause-stands
returns-clause-stands c = λ t holds h s. rests c.args.program.now t c.args.machine.now c.rests_at.new.self holds h c.rests_at.ensures.value s

pub returns-clause-calls : goal.returns-clause-calls
returns-clause-calls c = λ e t h s. calls_there c.args.program.now t c.args.machine.now c.rests_at.new.self h c.args.stack.now c.rests_at.ensures.value (c.rests_at.ensures.calls.0 e) s
