-- Tables of names, and stacks whose functions have names.
use Rattle.std.specs.Prelude.{◌≡◌, ◌≢◌, ℕ, ◌<◌, ◌^◌, ◌↔◌, ◌||◌, All, Contains, position, slice_get, slice_index_or, List, [], ◌∷◌, ◌++◌, length, Option, Some, None}
use Rattle.std.specs.List.{list_any}
use Rattle.std.specs.List.Sorted.{IsStrictlySortedBy}
use Rattle.std.specs.Ordering.{nat_cmp, on, then_cmp, match_ordering}
use Rattle.std.specs.Str.{bytes_eq}
use Rattle.std.specs.declared.cmp.Ordering.{Ordering}
use Rattle.std.specs.Cmp.Lexicographic.{slice_cmp}
use Rattle.dim_text.specs.Naming.{IsName}
use Rattle.dim_stack.specs.declared.Frame.{Frame}
use Rattle.dim_stack.specs.Order.{frame_cmp}

-- names are compared byte by byte, and a proper prefix comes first
abbrev pub name_cmp : List ℕ → List ℕ → Ordering
name_cmp = slice_cmp nat_cmp

-- each name comes before those behind it, so none stands twice
abbrev pub AreAscending : List (List ℕ) → Type 0
AreAscending names = IsStrictlySortedBy name_cmp names

-- what holds of every table of names
pub record IsTable (names : List (List ℕ)) : Type 0 where
  pub few : length names < 2 ^ 32
  pub named : All IsName names
  pub ascending : AreAscending names

-- a name among ascending ones, which stay where it stands there already
abbrev pub with_name : List ℕ → List (List ℕ) → List (List ℕ)
with_name name [] = name ∷ []
with_name name (x ∷ xs) = match_ordering (name_cmp name x) (name ∷ x ∷ xs) (x ∷ xs) (x ∷ with_name name xs)

-- the table of these names
abbrev pub table_of : List (List ℕ) → List (List ℕ)
table_of [] = []
table_of (name ∷ names) = with_name name (table_of names)

-- a list has those names that stand in one of two others
abbrev pub HasNamesOf : List (List ℕ) → List (List ℕ) → List (List ℕ) → Type 0
HasNamesOf xs ys both = (name : List ℕ)
    → list_any (bytes_eq name) both ≡ (list_any (bytes_eq name) xs || list_any (bytes_eq name) ys)

-- two lists have the same names
abbrev pub HasSameNames : List (List ℕ) → List (List ℕ) → Type 0
HasSameNames xs ys = (name : List ℕ) → Contains xs name ↔ Contains ys name

-- each of some names stands in a table
abbrev pub HasNames : List (List ℕ) → List (List ℕ) → Type 0
HasNames table names = (name : List ℕ) → Contains names name → Contains table name

-- the table of names has each of them
abbrev pub HasOwnLaw : Type 0
HasOwnLaw = (names : List (List ℕ)) → HasNames (table_of names) names

-- the table of two lists has the names that either has
abbrev pub HasFirstLaw : Type 0
HasFirstLaw = (a b names : List (List ℕ)) → HasNames a names → HasNames (table_of (a ++ b)) names

abbrev pub HasSecondLaw : Type 0
HasSecondLaw = (a b names : List (List ℕ)) → HasNames b names → HasNames (table_of (a ++ b)) names

-- the table of names ascends
abbrev pub AscendingLaw : Type 0
AscendingLaw = (names : List (List ℕ)) → AreAscending (table_of names)

-- it has the same names as they
abbrev pub SameNamesLaw : Type 0
SameNamesLaw = (names : List (List ℕ)) → HasSameNames (table_of names) names

-- and it is the only list of which both hold
abbrev pub OnlyTableLaw : Type 0
OnlyTableLaw = (names table : List (List ℕ)) → AreAscending table → HasSameNames table names
    → table ≡ table_of names

-- the number of a name, if it stands in the table
abbrev pub name_number : List (List ℕ) → List ℕ → Option ℕ
name_number names name = position (bytes_eq name) names

-- the name with that number is the one that was asked for
abbrev pub FoundLaw : Type 0
FoundLaw = (names : List (List ℕ)) (name : List ℕ) (n : ℕ) → name_number names name ≡ Some n
    → slice_get names n ≡ Some name

-- where there is no number, the name isn't there
abbrev pub MissingLaw : Type 0
MissingLaw = (names : List (List ℕ)) (name : List ℕ) → name_number names name ≡ None
    → All (λ x. x ≢ name) names

-- each name of a table has its own number
abbrev pub OwnLaw : Type 0
OwnLaw = (names : List (List ℕ)) → AreAscending names
    → (n : ℕ) (name : List ℕ) → slice_get names n ≡ Some name → name_number names name ≡ Some n

-- the name with a number
abbrev pub name_of : List (List ℕ) → ℕ → List ℕ
name_of names number = slice_index_or names number []

-- by the name of the function, and then by offset
abbrev pub named_cmp : List (List ℕ) → Frame → Frame → Ordering
named_cmp names = then_cmp (on (λ f. name_of names f.func) name_cmp) (on (λ f. f.at) nat_cmp)

-- each function of a stack stands in the table
abbrev pub IsNamedBy : List (List ℕ) → List Frame → Type 0
IsNamedBy names stack = All (λ f. f.func < length names) stack

-- stacks compare by the numbers of their functions as by the names, in any table
abbrev pub OrderLaw : Type 0
OrderLaw = (names : List (List ℕ)) → AreAscending names
    → (a b : List Frame) → IsNamedBy names a → IsNamedBy names b
    → slice_cmp frame_cmp a b ≡ slice_cmp (named_cmp names) a b
