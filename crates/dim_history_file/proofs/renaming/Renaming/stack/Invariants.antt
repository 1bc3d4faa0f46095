use Rattle.std.proofs.Common.{◌≡◌, length, map, take}
use Rattle.dim_stack.specs.Names.{IsNamedBy}
use Rattle.dim_history_file.specs.Value.{named_frame}
use Rattle.dim_history_file.proofs.renaming.Renaming.stack.Given as goal

abbrev pub invariant-loop-frame : goal.invariant-loop-frame
invariant-loop-frame l = record {
  same : map (named_frame l.self.to.now) l.frames.items ≡ map (named_frame l.self.from.now) (take l.frame-index l.frame-items);
  size : length l.frames.items ≡ l.frame-index;
  named : IsNamedBy l.self.to.now l.frames.items;
}
