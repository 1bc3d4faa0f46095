use Rattle.std.proofs.Common.{◌≡◌, ◌≤◌, ◌+◌, ◌^◌, length}
use Rattle.dim_text.specs.Reading.{read_from}
use Rattle.dim_log.specs.Faults.{fault}
use Rattle.dim_log.specs.Saying.{step, at_end, log_of}
use Rattle.dim_log.specs.Reader.{said, weight_of, HasRoom, IsReading}
use Rattle.dim_log.proofs.reading.read_lines.Given as goal

abbrev pub invariant-loop-line : goal.invariant-loop-line
invariant-loop-line l = record {
  same : read_from fault step at_end (said l.reader) l.number l.lines ≡ log_of l.bytes;
  reading : IsReading l.reader;
  room : HasRoom l.reader (weight_of l.lines);
  number : l.number + weight_of l.lines ≤ 2 ^ 31;
}

abbrev pub decreases-loop-line : goal.decreases-loop-line
decreases-loop-line l = length l.lines
