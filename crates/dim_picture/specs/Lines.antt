-- The lines of a trace, one by one.
use Rattle.std.specs.Prelude.{ℕ, List, [], Option, Some, None}
use Rattle.std.specs.List.{join_with_byte}
use Rattle.dim_asm.specs.Code.{Code}
use Rattle.dim_rag.specs.declared.entry.Entry.{Entry}
use Rattle.dim_trace.specs.Text.{words_of_entry}

-- the line of an entry, without its line feed
abbrev pub line_of : Code → List (List ℕ) → Entry → List ℕ
line_of p names e = join_with_byte 32 (words_of_entry p names e)

abbrev pub line_at : Code → List (List ℕ) → Option Entry → List ℕ
line_at p names None = []
line_at p names (Some e) = line_of p names e
