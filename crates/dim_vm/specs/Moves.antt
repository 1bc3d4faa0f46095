-- The moves of a thread.
use Rattle.std.specs.Prelude.{◌≡◌, ℕ, zero, suc, ◌≤◌, ◌-◌, ◌⊎◌, Bool, true, false, List, [], ◌∷◌, ◌++◌}
use Rattle.dim_asm.specs.Code.{Code}
use Rattle.dim_rag.specs.declared.entry.Entry.{Entry}
use Rattle.dim_rag.specs.declared.entry.Entry.TheVariants.{End}
use Rattle.dim_rag.specs.declared.entry.Why.{Why}
use Rattle.dim_vm.specs.declared.context.Context.{Context}
use Rattle.dim_vm.specs.declared.state.State.TheVariants.{Running}
use Rattle.dim_vm.specs.Table.{Plain}
use Rattle.dim_vm.specs.Configuration.{Configuration, next_of, moved}
use Rattle.dim_vm.specs.Fitting.{FitsEntry, FitsOwn, MayEnd}

-- where a thread is, with its own entries, oldest first
pub record Whereabouts : Type 0 where
  pub at : Configuration
  pub own : List Entry

abbrev pub is_end : Entry → Bool
is_end (End t why) = true
is_end _ = false

-- with an entry more
abbrev pub after_entry : Code → Whereabouts → Entry → Whereabouts
after_entry p a e = record { at = moved p a.at e; own = a.own ++ e ∷ [] }

-- a plain instruction is made, for a unit
pub record MakesPlain (p : Code) (a b : Whereabouts) : Type 0 where
  pub context : Context
  pub running : a.at.state ≡ Running
  pub paid : 1 ≤ a.at.units
  pub next : next_of p a.at ≡ Plain context
  pub after : b
      ≡ record { at = record a.at { units = a.at.units - 1; context = context }; own = a.own }

-- an entry is made that is no End
pub record MakesEntry (p : Code) (a b : Whereabouts) : Type 0 where
  pub entry : Entry
  pub fits : FitsOwn p a.at entry
  pub no_end : is_end entry ≡ false
  pub after : b ≡ after_entry p a entry

-- a move leads from a to b
abbrev pub Move : Code → Whereabouts → Whereabouts → Type 0
Move p a b = MakesPlain p a b ⊎ MakesEntry p a b

-- so many moves lead from a to b
abbrev pub Moves : Code → Whereabouts → ℕ → Whereabouts → Type 0
Moves p a zero b = b ≡ a
Moves p a (suc n) b = (c : Whereabouts) × Moves p a n c × Move p c b

-- the thread ends, at a, and b is where that leaves it
pub record Finish (p : Code) (woken : Type 0) (a b : Whereabouts) : Type 0 where
  pub why : Why
  pub fits : FitsEntry p (MayEnd woken a.at.state) a.at (End a.at.thread why)
  pub after : b ≡ after_entry p a (End a.at.thread why)
