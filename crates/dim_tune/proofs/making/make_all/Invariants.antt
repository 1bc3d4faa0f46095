use Rattle.std.proofs.Common.{◌≤◌, ◌+◌, ◌-◌, length}
use Rattle.dim_tune.specs.Made.{AreFollowed, IsMade}
use Rattle.dim_tune.proofs.making.make_all.Given as goal

abbrev pub invariant-each : goal.invariant-each
invariant-each l = record {
  made : IsMade l.initial.made.history.names l.program l.s l.initial.made.history.catalogue.sigs l.made;
  followed : AreFollowed l.initial.made.history.names l.program l.s l.initial.made.history.catalogue.sigs (length l.made.lines.items);
  few : length l.made.history.catalogue.sigs ≤ 4080;
  low : length l.made.lines.items + 1 ≤ l.attempts;
}

abbrev pub decreases-each : goal.decreases-each
decreases-each l = l.attempts - length l.made.lines.items
