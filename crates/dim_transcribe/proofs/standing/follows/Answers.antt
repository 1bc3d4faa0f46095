use Rattle.std.proofs.Common.{ap, sym, ◌∙◌}
use Rattle.dim_transcribe.specs.Performs.{held_after}
use Rattle.dim_transcribe.proofs.standing.follows.Goals as goal

pub returns : goal.returns
returns c = λ e t h s. record {
  stands = c.goes_on.ensures.stands c.if-not-goes_on.false t h s.stands;
  held = c.keep_after.ensures e ∙ ap (held_after _) s.held ∙ sym (c.goes_on.ensures.holds c.if-not-goes_on.false);
}
