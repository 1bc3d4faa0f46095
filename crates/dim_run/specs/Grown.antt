-- The signatures that are known after a run, with its yields counted.
use Rattle.std.specs.Prelude.{◌≡◌, ℕ, ◌+◌, ◌<◌, ◌==◌, Bool, false, List, [], ◌∷◌, length, slice_get, Option, Some, None, map}
use Rattle.std.specs.List.{filter}
use Rattle.dim_rag.specs.declared.entry.Entry.{Entry}
use Rattle.dim_rag.specs.declared.entry.Entry.TheVariants.{Yield}
use Rattle.dim_rag.specs.History.{past}
use Rattle.dim_rag.specs.Yielded.{yielded}
use Rattle.dim_signature.specs.Sig.{Sig, counted}
use Rattle.dim_signature.specs.Catalogue.{changed_at}
use Rattle.dim_gate.specs.Known.{known_sigs}

-- whether an entry is a Yield that names the signature with a number
abbrev pub is_yield_of : ℕ → Entry → Bool
is_yield_of i (Yield t l s sig births) = sig == i
is_yield_of i _ = false

-- how many Yields of these entries name it
abbrev pub yields_of : ℕ → List Entry → ℕ
yields_of i entries = length (filter (is_yield_of i) entries)

-- signatures, numbered from k, each with the Yields of the entries that name it counted
abbrev pub counted_from : ℕ → List Entry → List Sig → List Sig
counted_from k entries [] = []
counted_from k entries (s ∷ ss) = counted (yields_of k entries) s ∷ counted_from (k + 1) entries ss

-- the signatures known after some entries, in the states and with the yields that were read, or on
-- and 0 where they were learnt, and the Yields of the entries counted
abbrev pub grown : List Sig → ℕ → List Entry → List Sig
grown loaded depth entries = counted_from 0 entries (known_sigs loaded depth (past entries))

-- each known signature keeps its number, and the Yields that name it are counted
pub record GrownLaw : Type 0 where
  pub count : (loaded : List Sig) (depth : ℕ) (entries : List Entry)
      → length (grown loaded depth entries) ≡ length (known_sigs loaded depth (past entries))
  pub each : (loaded : List Sig) (depth : ℕ) (entries : List Entry) (i : ℕ) (s : Sig)
      → slice_get (known_sigs loaded depth (past entries)) i ≡ Some s
      → slice_get (grown loaded depth entries) i ≡ Some (counted (yields_of i entries) s)

-- each Yield of these entries names one of so many signatures
abbrev pub YieldsNameOneOf : ℕ → List Entry → Type 0
YieldsNameOneOf n entries = (place i : ℕ) → slice_get (map yielded entries) place ≡ Some (Some i)
    → i < n

-- the signatures with one yield more of the one with this number, if there is one
abbrev pub with_yield : Option ℕ → List Sig → List Sig
with_yield None sigs = sigs
with_yield (Some i) sigs = changed_at i (counted 1) sigs
