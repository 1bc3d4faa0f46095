use Rattle.std.proofs.Common.{take}
use Rattle.dim_stack.specs.Names.{HasNamesOf}
use Rattle.dim_stack.proofs.names.add_words.Given as goal

-- the names of the words so far are there
abbrev pub invariant-loop-word : goal.invariant-loop-word
invariant-loop-word l = HasNamesOf l.fn.table.keys (take l.word-index l.words) l.table.keys
