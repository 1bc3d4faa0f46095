use Rattle.dim_transcribe.proofs.standing.takes_first.Goals as goal

pub returns : goal.returns
returns c = λ e h s. c.follows-2.ensures e c.args.t _ (c.follows.ensures c.if-not-follows.false c.args.t h s)
