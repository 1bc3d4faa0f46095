-- What a log says, in words alone.
use Rattle.std.specs.Prelude.{ℕ, Bool, List}

-- a function, by its name, and a line
pub record SaidFrame : Type 0 where
  pub function : List ℕ
  pub line : ℕ

-- an operation: the word for its thread; the word for the lock or the other thread; for a try,
-- whether it took the lock; and the stack, innermost frame first
pub data Said : Type 0 where
  SaidLock : List ℕ → List ℕ → List SaidFrame → Said
  SaidTry : List ℕ → List ℕ → Bool → List SaidFrame → Said
  SaidUnlock : List ℕ → List ℕ → List SaidFrame → Said
  SaidStart : List ℕ → List ℕ → Said
  SaidJoin : List ℕ → List ℕ → Said

-- the operations in order, and whether the text was cut off within a line
pub record LogValue : Type 0 where
  pub events : List Said
  pub cut : Bool
