use Rattle.dim_transcribe.proofs.Followed.{followed, held_on}
use Rattle.dim_transcribe.proofs.standing.goes_on.Goals as goal

pub returns-clause-stands : goal.returns-clause-stands
returns-clause-stands c = λ e t h s. followed c.args.program.now t c.args.machine.now c.follow.new.self _ h (c.follow.ensures.fits.0 e) (c.follow.ensures.moved e) s

pub returns-clause-holds : goal.returns-clause-holds
returns-clause-holds c = λ e. held_on c.args.program.now c.args.machine.now c.follow.new.self _ (c.follow.ensures.moved e)
