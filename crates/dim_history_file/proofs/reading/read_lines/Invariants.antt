use Rattle.std.proofs.Common.{◌≡◌, ◌+◌, length}
use Rattle.dim_text.specs.Reading.{read_from}
use Rattle.dim_stack.specs.Names.{table_of, HasNames}
use Rattle.dim_history_file.specs.Faults.{fault}
use Rattle.dim_history_file.specs.Judging.{step, at_end, history_of}
use Rattle.dim_history_file.specs.Spelling.{lines_so_far}
use Rattle.dim_history_file.specs.Grammar.{FitsStage}
use Rattle.dim_history_file.specs.Naming.{names_in, names_in_lines}
use Rattle.dim_history_file.specs.Reader.{IsReading, state_of}
use Rattle.dim_history_file.proofs.reading.read_lines.Given as goal

abbrev pub invariant-loop-line : goal.invariant-loop-line
invariant-loop-line l = record {
  same : read_from fault step at_end (state_of l.reader) l.number l.lines ≡ history_of l.bytes;
  names : l.reader.names ≡ table_of (names_in l.bytes);
  reading : IsReading l.reader;
  fits : FitsStage (state_of l.reader);
  covers : HasNames l.reader.names (names_in_lines l.lines);
  number : l.number ≡ 1 + length (lines_so_far (state_of l.reader));
}

abbrev pub decreases-loop-line : goal.decreases-loop-line
decreases-loop-line l = length l.lines
