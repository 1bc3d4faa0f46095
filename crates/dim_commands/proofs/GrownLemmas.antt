-- How many signatures are known after some entries.
use Rattle.std.proofs.Common.{◌≡◌, ◌+◌, ℕ, suc, List, [], ◌∷◌, length, refl, ap}
use Rattle.dim_signature.specs.Sig.{Sig}
use Rattle.dim_rag.specs.declared.entry.Entry.{Entry}
use Rattle.dim_rag.specs.History.{past}
use Rattle.dim_gate.specs.Known.{known_sigs}
use Rattle.dim_run.specs.Grown.{counted_from, grown}

counted_length : (k : ℕ) (entries : List Entry) (sigs : List Sig) → length (counted_from k entries sigs) ≡ length sigs
counted_length k entries [] = refl
counted_length k entries (s ∷ sigs) = ap suc (counted_length (k + 1) entries sigs)

-- yields that are counted change no number of signatures
pub grown_length : (loaded : List Sig) (depth : ℕ) (entries : List Entry) → length (grown loaded depth entries) ≡ length (known_sigs loaded depth (past entries))
grown_length loaded depth entries = counted_length 0 entries (known_sigs loaded depth (past entries))
