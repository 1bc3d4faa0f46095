-- From a text to a program.
use Rattle.std.specs.Prelude.{ℕ, List, Result, Ok}
use Rattle.dim_text.specs.Reading.{◌>>=◌}
use Rattle.dim_asm.specs.declared.fault.AsmFault.{AsmFault}
use Rattle.dim_asm.specs.Bound.{bound, own_names}
use Rattle.dim_asm.specs.Code.{Code}
use Rattle.dim_asm.specs.Judging.{source_of}
use Rattle.dim_asm.specs.Linking.{link}

-- The program of a text, bound to the table of its own names, or the text's first fault. A fault of
-- the first pass goes before any of the second.
abbrev pub program_of : List ℕ → Result Code AsmFault
program_of bytes = do
  source ← source_of bytes
  p ← link source
  Ok (bound (own_names p) p)
