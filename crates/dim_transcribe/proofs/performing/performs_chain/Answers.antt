use Rattle.std.proofs.Common.{[], refl}
use Rattle.dim_transcribe.proofs.OneMore.{made_more, performed}
use Rattle.dim_transcribe.proofs.performing.performs_chain.Goals as goal

pub loop-i-init : goal.loop-i-init
loop-i-init c = record { own = []; made = refl; stands = c.starting-machine.ensures }

pub loop-i-preserved : goal.loop-i-preserved
loop-i-preserved c = made_more c.args.program.now c.args.key.now c.args.log.now c.args.t c.args.operations.now c.loop-i.i _ c.in-Some.by.now.lock c.in-Some.by.now.stack c.loop-i.machine c.makes.new.machine c.loop-i.holds c.makes.new.holds
    (c.means.ensures c.if-not-means.false) c.loop-i-test.true (c.makes.ensures.made c.if-not-makes.false) (c.makes.ensures.calls c.if-not-makes.false) c.loop-i.invariant

pub returns : goal.returns
returns c = λ e. performed c.args.program.now c.args.key.now c.args.log.now c.args.t c.args.operations.now c.loop-i.i c.loop-i.machine c.ends.new.machine c.loop-i.holds c.loop-i-test.false (c.ends.ensures e) c.loop-i.invariant
