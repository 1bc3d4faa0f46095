-- Which signature an entry names that makes its thread yield, and which entries make one known.
use Rattle.std.specs.Prelude.{ℕ, Bool, true, false, Option, Some, None}
use Rattle.dim_rag.specs.declared.entry.Entry.{Entry}
use Rattle.dim_rag.specs.declared.entry.Entry.TheVariants.{Yield, Learn}

-- the number of the signature that an entry names, where it is a Yield
abbrev pub yielded : Entry → Option ℕ
yielded (Yield t l s sig births) = Some sig
yielded _ = None

-- an entry is a Learn
abbrev pub is_learn : Entry → Bool
is_learn (Learn births) = true
is_learn _ = false
