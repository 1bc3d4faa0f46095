-- Lists of things that stand once.
use Rattle.std.specs.Prelude.{ℕ, Bool, List, [], ◌∷◌, ◌++◌, if◌then◌else◌, fold, map, nat_eq}
use Rattle.std.specs.List.{list_any, flat_map}
use Rattle.std.specs.Ordering.{on, eq_of_both}
use Rattle.std.specs.Str.{bytes_eq}
use Rattle.std.specs.Cmp.Lexicographic.{pointwise}
use Rattle.dim_log.specs.Value.{SaidFrame, Said, SaidLock, SaidTry, SaidUnlock, SaidStart, SaidJoin}

-- a thing goes last, unless it stands in the list already
abbrev pub with_new : {X : Type 0} → (X → X → Bool) → List X → X → List X
with_new same xs x = if list_any (same x) xs then xs else xs ++ x ∷ []

abbrev pub with_all : {X : Type 0} → (X → X → Bool) → List X → List X → List X
with_all same xs new = fold (with_new same) xs new

-- each thing of a list once, in the order in which they first come
abbrev pub each_once : {X : Type 0} → (X → X → Bool) → List X → List X
each_once same xs = with_all same [] xs

-- whether two stacks are equal
abbrev pub same_frame : SaidFrame → SaidFrame → Bool
same_frame = eq_of_both (on (λ f. f.function) bytes_eq) (on (λ f. f.line) nat_eq)

abbrev pub same_stack : List SaidFrame → List SaidFrame → Bool
same_stack = pointwise same_frame

-- the threads, locks and stacks that an operation names, and the functions of its stack
abbrev pub threads_in : Said → List (List ℕ)
threads_in (SaidLock thread lock stack) = thread ∷ []
threads_in (SaidTry thread lock took stack) = thread ∷ []
threads_in (SaidUnlock thread lock stack) = thread ∷ []
threads_in (SaidStart thread other) = thread ∷ other ∷ []
threads_in (SaidJoin thread other) = thread ∷ other ∷ []

abbrev pub locks_in : Said → List (List ℕ)
locks_in (SaidLock thread lock stack) = lock ∷ []
locks_in (SaidTry thread lock took stack) = lock ∷ []
locks_in (SaidUnlock thread lock stack) = lock ∷ []
locks_in (SaidStart thread other) = []
locks_in (SaidJoin thread other) = []

abbrev pub stacks_in : Said → List (List SaidFrame)
stacks_in (SaidLock thread lock stack) = stack ∷ []
stacks_in (SaidTry thread lock took stack) = stack ∷ []
stacks_in (SaidUnlock thread lock stack) = stack ∷ []
stacks_in (SaidStart thread other) = []
stacks_in (SaidJoin thread other) = []

abbrev pub functions_of : List SaidFrame → List (List ℕ)
functions_of stack = map (λ f. f.function) stack

abbrev pub functions_in : Said → List (List ℕ)
functions_in said = flat_map functions_of (stacks_in said)
