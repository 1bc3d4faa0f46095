use Rattle.std.proofs.Common.{◌≡◌, ◌+◌, length}
use Rattle.dim_text.specs.Reading.{read_from}
use Rattle.dim_asm.specs.Faults.{fault}
use Rattle.dim_asm.specs.Judging.{step, at_end, source_of}
use Rattle.dim_asm.specs.Spelling.{lines_so_far}
use Rattle.dim_asm.specs.Grammar.{FitsStage}
use Rattle.dim_asm.specs.Reader.{read, state_of, IsCounted}
use Rattle.dim_asm.proofs.assembler.read.Given as goal

abbrev pub invariant-loop-line : goal.invariant-loop-line
invariant-loop-line l = record {
  same : read_from fault step at_end (state_of l.reader) l.number l.lines ≡ source_of l.bytes;
  counted : IsCounted l.reader;
  fits : FitsStage (state_of l.reader);
  number : l.number ≡ 1 + length (lines_so_far l.reader.stage (read l.reader));
}

abbrev pub decreases-loop-line : goal.decreases-loop-line
decreases-loop-line l = length l.lines
