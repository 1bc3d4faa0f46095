-- What a pass over entries asks of them.
use Rattle.std.specs.Prelude.{◌≡◌, ℕ, List, slice_get, Some}
use Rattle.dim_rag.specs.declared.entry.Entry.{Entry}
use Rattle.dim_rag.specs.Fits.{FitsAfter, IsInRange}
use Rattle.dim_rag.specs.Places.{before}
use Rattle.dim_asm.specs.Code.{Code, thread_count, lock_count}
use Rattle.dim_execution.specs.Executes.{Executes}
use Rattle.dim_execution.specs.Start.{gate_of}
use Rattle.dim_signature.specs.Sig.{Sig}

-- an entry may come after h, among n threads and m locks
pub record IsTold (n m : ℕ) (h : List Entry) (e : Entry) : Type 0 where
  pub fits : FitsAfter h e
  pub in_range : IsInRange n m e

-- each of these entries, oldest first, may come after those before it
abbrev pub AreTold : ℕ → ℕ → List Entry → Type 0
AreTold n m entries = (place : ℕ) (e : Entry) → slice_get entries place ≡ Some e
    → IsTold n m (before place entries) e

-- entries that execute a program are told so
abbrev pub ToldLaw : Type 0
ToldLaw = (p : Code) (loaded : List Sig) (depth fuel : ℕ) (entries : List Entry)
    → Executes (gate_of p loaded depth) p fuel entries
    → AreTold (thread_count p) (lock_count p) entries
