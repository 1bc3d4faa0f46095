-- What the search for pairs keeps: links from content to content, numbers for stacks, and which
-- pairs of numbers have come.
use Rattle.std.specs.Prelude.{◌≡◌, ℕ, ◌+◌, ◌*◌, ◌<◌, ◌≤◌, ◌↔◌, max, min, All, false, true, Bool, ◌||◌, List, [], ◌∷◌, length, map, slice_index, slice_index_or}
use Rattle.dim_stack.specs.declared.Frame.{Frame}
use Rattle.dim_signature.specs.Sig.{Sig}
use Rattle.dim_signature.specs.Sorted.{sorted}
use Rattle.dim_predict.specs.declared.key.Key.{Key}
use Rattle.dim_predict.specs.declared.places.Places.{Places}
use Rattle.dim_predict.specs.Candidates.{are_among, unknown}

-- a key has these two locks
abbrev pub HasLocks : ℕ → ℕ → Key → Type 0
HasLocks held wanted k = (k.held.0 ≡ held) × (k.wanted.0 ≡ wanted)

-- j is the first place from i on at which a key has these two locks, or the number of keys
pub record IsFirstFrom (keys : List Key) (held wanted i j : ℕ) : Type 0 where
  pub behind : i ≤ j
  pub within : j ≤ length keys
  pub there : (d : Key) → j < length keys → HasLocks held wanted (slice_index_or keys j d)
  pub none : (k : ℕ) (d : Key) → i ≤ k → k < j → HasLocks held wanted (slice_index_or keys k d) → ⊥

-- behind a key, the first one with its locks the other way round, and the first one with its locks
abbrev pub IsOppositeOf : List Key → ℕ → ℕ → Type 0
IsOppositeOf keys i j = (d : Key) → IsFirstFrom keys (slice_index_or keys i d).wanted.0 (slice_index_or keys i d).held.0 (i + 1) j

abbrev pub IsNextOf : List Key → ℕ → ℕ → Type 0
IsNextOf keys i j = (d : Key) → IsFirstFrom keys (slice_index_or keys i d).held.0 (slice_index_or keys i d).wanted.0 (i + 1) j

-- the links of all keys from a place on
pub record AreLinksFrom (keys : List Key) (i : ℕ) (opposite next : List ℕ) : Type 0 where
  pub opposites : length opposite ≡ length keys
  pub nexts : length next ≡ length keys
  pub opposite_is : (k : ℕ) → i ≤ k → k < length keys → IsOppositeOf keys k (slice_index opposite k)
  pub next_is : (k : ℕ) → i ≤ k → k < length keys → IsNextOf keys k (slice_index next k)

-- the place of two locks in a table
abbrev pub lock_slot : ℕ → ℕ → ℕ
lock_slot held wanted = held * 256 + wanted

-- for each two locks, the first key with them from i on
pub record AreHeads (keys : List Key) (i : ℕ) (heads : List ℕ) : Type 0 where
  pub size : length heads ≡ 65536
  pub first : (held wanted : ℕ) → held < 256 → wanted < 256
      → IsFirstFrom keys held wanted i (slice_index heads (lock_slot held wanted))

-- the stack of the key at a place
abbrev pub stack_at : List Key → ℕ → Key → List Frame
stack_at keys i d = (slice_index_or keys i d).stack

-- a number for the stack of each of the first n keys, the same for two exactly where their stacks
-- are equal
pub record AreNumbers (keys : List Key) (n : ℕ) (numbers : List ℕ) : Type 0 where
  pub size : length numbers ≡ n
  pub below : (i : ℕ) → i < n → slice_index numbers i < n
  pub same : (i j : ℕ) (d : Key) → i < n → j < n
      → (slice_index numbers i ≡ slice_index numbers j) ↔ (stack_at keys i d ≡ stack_at keys j d)

-- the place of a pair of numbers in a table, whichever of the two comes first
abbrev pub pair_slot : ℕ → ℕ → ℕ
pair_slot a b = max a b * 4096 + min a b

-- whether a pair has come
abbrev pub has_come : List Bool → ℕ → ℕ → Bool
has_come table a b = slice_index_or table (pair_slot a b) false

-- the table after a pair: it has come, and what is told of other pairs stays
pub record IsAdded (table new : List Bool) (a b : ℕ) : Type 0 where
  pub size : length new ≡ length table
  pub here : has_come new a b ≡ true
  pub others : (c d : ℕ) → c < 4096 → d < 4096 → (pair_slot c d ≡ pair_slot a b → ⊥)
      → has_come new c d ≡ has_come table c d

-- the stacks of two keys, in order
abbrev pub stacks_at : List Key → Key → ℕ → ℕ → List (List Frame)
stacks_at keys d i j = sorted (stack_at keys i d ∷ stack_at keys j d ∷ [])

abbrev pub stacks_of_places : List Key → Key → Places → List (List Frame)
stacks_of_places keys d p = stacks_at keys d p.earlier p.later

-- both places are below n
abbrev pub AreWithin : ℕ → Places → Type 0
AreWithin n p = (p.earlier < n) × (p.later < n)

-- after pairs with some stacks have come, those are found whose stacks no signature had and no pair
-- before, and it is told of each pair whether a signature has its stacks or they have come
pub record IsSearched (loaded : List Sig) (keys : List Key) (numbers : List ℕ) (come : List (List (List Frame))) (table : List Bool) (found : List Places) : Type 0 where
  pub size : length table ≡ length keys * 4096
  pub found_is : (d : Key) → map (stacks_of_places keys d) found ≡ unknown (map (λ s. s.stacks) loaded) come
  pub within : All (AreWithin (length keys)) found
  pub come_is : (i j : ℕ) (d : Key) → i < length keys → j < length keys
      → has_come table (slice_index numbers i) (slice_index numbers j)
      ≡ (are_among (map (λ s. s.stacks) loaded) (stacks_at keys d i j) || are_among come (stacks_at keys d i j))
