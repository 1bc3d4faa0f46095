-- What walks and configurations say of places in a list that is kept oldest first.
use Rattle.std.specs.Prelude.{◌≡◌, ◌↔◌, ◌⊎◌, ℕ, zero, suc, ◌+◌, ⊤, List, Some, slice_get}
use Rattle.dim_base.specs.declared.Tid.{Tid}
use Rattle.dim_asm.specs.Code.{Code}
use Rattle.dim_rag.specs.declared.entry.Entry.{Entry}
use Rattle.dim_rag.specs.History.{past}
use Rattle.dim_rag.specs.Places.{before}
use Rattle.dim_rag.specs.Tables.{caller_of}
use Rattle.dim_vm.specs.declared.context.Context.{Context}
use Rattle.dim_vm.specs.Table.{Next, Plain, next}
use Rattle.dim_vm.specs.Configuration.{Course, course, led, moved, rested, start}
use Rattle.dim_vm.specs.Fitting.{FitsOwn, OwnWalk}
use Rattle.dim_vm.specs.Walks.{Walks, FitsCaller}

-- A list walks exactly where at each place the entry fits the configuration to which its caller's
-- own entries before that place lead; and so do a thread's own entries.
pub record WalkLaw : Type 0 where
  pub walks : (p : Code) (fuel : ℕ) (entries : List Entry)
      → Walks p fuel (past entries)
      ↔ ((place : ℕ) (e : Entry) → slice_get entries place ≡ Some e → FitsCaller p fuel (before place entries) e (caller_of e))
  pub own : (p : Code) (t : Tid) (fuel : ℕ) (own : List Entry)
      → OwnWalk p t fuel (past own)
      ↔ ((place : ℕ) (e : Entry) → slice_get own place ≡ Some e → FitsOwn p (led p t fuel (before place own)) e)

-- A thread's own entries lead it from its start, one by one, each followed by the plain
-- instructions that come next.
pub record LedLaw : Type 0 where
  pub first : (p : Code) (t : Tid) (fuel : ℕ) (own : List Entry)
      → led p t fuel (before 0 own) ≡ rested p (start p t fuel)
  pub next : (p : Code) (t : Tid) (fuel : ℕ) (own : List Entry) (place : ℕ) (e : Entry)
      → slice_get own place ≡ Some e
      → led p t fuel (before (place + 1) own)
      ≡ rested p (moved p (led p t fuel (before place own)) e)

-- n plain instructions lead from b to b'
abbrev pub ArePlain : Code → List ℕ → ℕ → Context → Context → Type 0
ArePlain p holds zero b b' = b' ≡ b
ArePlain p holds (suc n) b b' = (c : Context) × (next p holds b ≡ Plain c) × ArePlain p holds n c b'

abbrev pub IsOther : Next → Type 0
IsOther (Plain b) = ⊥
IsOther _ = ⊤

-- plain instructions were made, each for a unit, and no unit is left or the next thing isn't plain
pub record IsCourse (p : Code) (holds : List ℕ) (units : ℕ) (b : Context) (r : Course) : Type 0 where
  pub made : ℕ
  pub paid : made + r.units ≡ units
  pub plain : ArePlain p holds made b r.context
  pub over : (r.units ≡ 0) ⊎ IsOther (next p holds r.context)

-- there is one such course, and it is the one that a thread takes
abbrev pub CourseLaw : Type 0
CourseLaw = (p : Code) (holds : List ℕ) (units : ℕ) (b : Context) (r : Course)
    → (course p holds units b ≡ r) ↔ IsCourse p holds units b r
