use Rattle.std.proofs.Common.{◌≤◌, All, length}
use Rattle.dim_text.specs.Naming.{IsName}
use Rattle.text_tests.proofs.stacks.table.Given as goal

abbrev pub invariant-loop-text : goal.invariant-loop-text
invariant-loop-text g l = record {
  named : All IsName l.words.items;
  few : length l.words.items ≤ l.text-index;
}
