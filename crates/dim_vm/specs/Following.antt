-- What a machine needs that goes on by an entry.
use Rattle.std.specs.Prelude.{◌≡◌, ℕ, ◌<◌, ◌≤◌, ◌⊎◌, ⊤, Bool, false, List, length}
use Rattle.dim_base.specs.declared.Lid.{Lid}
use Rattle.dim_rag.specs.declared.entry.Entry.{Entry}
use Rattle.dim_rag.specs.declared.entry.Entry.TheVariants.{Got, Free, Took, Miss, End}
use Rattle.dim_rag.specs.declared.entry.Why.{Why}
use Rattle.dim_rag.specs.declared.entry.Why.TheVariants.{Spent}
use Rattle.dim_vm.specs.declared.context.Context.{Context}
use Rattle.dim_vm.specs.declared.step.Step.{Step}
use Rattle.dim_vm.specs.declared.step.Step.TheVariants as step
use Rattle.dim_vm.specs.Frames.{top_frame}
use Rattle.dim_vm.specs.Table.{Next, Ends, times}
use Rattle.dim_vm.specs.Fitting.{IsWanting, IsRetaking, IsFreeing, IsTrying}

-- the end of a thread that is spent
abbrev pub IsSpending : Entry → Type 0
IsSpending (End t Spent) = ⊤
IsSpending _ = ⊥

-- a thread that has so many units may end so where this is next
abbrev pub FitsEnd : ℕ → Type 0 → Why → Next → Type 0
FitsEnd units may_end Spent n = (units ≡ 0) ⊎ ((units ≡ 1) × may_end × ((l : Lid) × IsWanting l n))
FitsEnd units may_end why n = (1 ≤ units) × (n ≡ Ends why)

-- whether the lock of a step is the newest operand, which drops
abbrev pub drops_at : Step → Bool
drops_at (step.Wants l drops) = drops
drops_at (step.Retakes l drops) = drops
drops_at (step.Frees l drops) = drops
drops_at _ = false

-- the lock of a step has an index, its instruction has a next one, a lock that is taken once more
-- is held fewer than 255 times, and a try has room for its operand
abbrev pub IsSafe : List ℕ → Context → Step → Type 0
IsSafe holds b (step.Wants l drops) = (l.0 < 256) × ((top_frame b.frames).at < 65536)
IsSafe holds b (step.Retakes l drops) = (l.0 < 256) × ((top_frame b.frames).at < 65536)
    × (times holds l.0 < 255)
IsSafe holds b (step.Frees l drops) = (l.0 < 256) × ((top_frame b.frames).at < 65536)
IsSafe holds b (step.Tries l) = (l.0 < 256) × ((top_frame b.frames).at < 65536)
    × (times holds l.0 < 255) × (length b.operands < 256)
IsSafe holds b _ = ⊤

-- an entry that goes on behind an instruction tells of the next thing
abbrev pub Tells : Entry → Next → Type 0
Tells (Got t l) n = IsWanting l n
Tells (Free t l) n = IsFreeing l n
Tells (Took t l s) n = IsTrying l n ⊎ IsRetaking l n
Tells (Miss t l s why) n = IsTrying l n
Tells _ n = ⊤
