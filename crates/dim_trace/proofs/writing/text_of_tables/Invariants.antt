use Rattle.std.proofs.Common.{◌≡◌, ◌++◌, take, map}
use Rattle.std.specs.Prelude.{All}
use Rattle.dim_trace.specs.Grammar.{HasSet}
use Rattle.dim_trace.specs.Text.{head_lines, text_of, words_of_entry}
use Rattle.dim_trace.proofs.writing.text_of_tables.Given as goal

abbrev pub invariant-loop-place : goal.invariant-loop-place
invariant-loop-place l = record {
  text : l.text ≡ text_of (head_lines l.fuel l.depth) ++ text_of (map (words_of_entry l.program l.names) (take l.place l.tables.entries));
  sets : All HasSet (take l.place l.tables.entries);
}
