use Rattle.std.proofs.Common.{sym, ◌∙◌}
use Rattle.transcribe.proofs.making.made_of.Goals as goal

pub returns-then-is_empty : goal.returns-then-is_empty
returns-then-is_empty c = record {
  log = c.in_ok-log.log;
  kept = c.in_ok-kept.kept;
  keeps = record { says = c.in_ok-log.ensures.says; are_kept = c.in_ok-kept.ensures.kept };
  none = sym c.is_empty.ensures ∙ c.if-is_empty.true;
}

pub returns : goal.returns
returns c = record {
  log = c.in_ok-log.log;
  kept = c.in_ok-kept.kept;
  keeps = record { says = c.in_ok-log.ensures.says; are_kept = c.in_ok-kept.ensures.kept };
  code = c.in_ok-made.made.program;
  spelled = c.in_ok-made.ensures.text;
  key = c.in_ok-made.made.key;
  performs = c.in_ok-made.ensures.performs;
}
