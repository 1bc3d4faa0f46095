-- Traps, and what may trap.
use Rattle.std.specs.Prelude.{◌≡◌, ℕ, Result, Ok, Err}
use Rattle.dim_vm.specs.declared.trap.Trap.{Trap}
use Rattle.dim_vm.specs.declared.trap.Trap.TheVariants as trap

-- the number of a trap
abbrev pub number : Trap → ℕ
number trap.Under = 1
number trap.Over = 2
number trap.Depth = 3
number trap.Sum = 4
number trap.Local = 5
number trap.NoLock = 6
number trap.Relock = 7
number trap.NotOwner = 8
number trap.FellOff = 9

-- one after another, up to the first that traps
infixl 10 ◌>>=◌
abbrev pub ◌>>=◌ : {A B : Type 0} → Result A Trap → (A → Result B Trap) → Result B Trap
Ok x >>= f = f x
Err k >>= f = Err k

-- what was to come of a was left as b; or it trapped, and a stays
abbrev pub Leaves : {A : Type 0} → Result A Trap → A → Result (Unit {0}) Trap → A → Type 0
Leaves m a (Ok u) b = m ≡ Ok b
Leaves m a (Err k) b = (m ≡ Err k) × (b ≡ a)
