use Rattle.std.proofs.Common.{◌≡◌}
use Rattle.dim_picture.specs.Frames.{end_of_lanes, tops_of}
use Rattle.dim_picture.proofs.lanes.frame_of.Given as goal

abbrev pub invariant-loop-t : goal.invariant-loop-t
invariant-loop-t l = record {
  tops : l.tops.items ≡ tops_of l.from l.to l.shapes l.t;
  bottom : l.bottom ≡ end_of_lanes l.from l.to l.shapes l.t;
}
