-- What files tell of themselves, and what the calls on them answer and leave.
use Rattle.std.specs.Prelude.{◌≡◌, ℕ, ◌≤◌, List, length, nat_lt, if◌then◌else◌, Option, Some, None, Result, Ok, Err}
use Rattle.std.specs.Str.{bytes_eq}
use Rattle.std.specs.Map.{update}
use Rattle.std.specs.Option.{option_map}
use Rattle.dim_base.specs.declared.files.Fetch.{Fetch}
use Rattle.dim_base.specs.declared.files.Fetch.TheVariants.{Long, Absent}
use Rattle.dim_base.specs.declared.files.Fetch.TheVariants as fetch
use Rattle.dim_base.specs.declared.files.Store.{Store}
use Rattle.dim_base.specs.declared.files.Store.TheVariants as store
use Rattle.dim_base.specs.Causes.{Rose, risen}

-- what stands under each name
abbrev pub Named : Type 0
Named = List ℕ → Option (List ℕ)

-- nothing under any name
abbrev pub no_files : Named
no_files name = None

-- the files with this under the name, bytes or nothing, and all other names as before
abbrev pub with_file : Named → List ℕ → Option (List ℕ) → Named
with_file files name there = update bytes_eq files name there

-- what a fetch that does not fail answers, where this stands under the name
abbrev pub fetched : Option (List ℕ) → ℕ → Result (List ℕ) Fetch
fetched None limit = Err Absent
fetched (Some bytes) limit = if nat_lt limit (length bytes) then Err (Long limit) else Ok bytes

-- a fetch that finds too many bytes says the limit that it was given
abbrev pub SaysLimit : ℕ → Result (List ℕ) Fetch → Type 0
SaysLimit limit (Err (fetch.Long l)) = l ≡ limit
SaysLimit limit r = Unit {0}

-- a fetch answers this, or it failed, or memory ran out
abbrev pub Fetches : Result (List ℕ) Fetch → Result (List ℕ) Fetch → Type 0
Fetches right (Err fetch.Failed) = Unit {0}
Fetches right (Err fetch.OutOfMemory) = Unit {0}
Fetches right (Err (fetch.Long limit)) = right ≡ Err (Long limit)
Fetches right (Err fetch.Absent) = right ≡ Err Absent
Fetches right (Ok bytes) = right ≡ Ok bytes

-- the count of faults goes by the answer of a fetch
abbrev pub FetchCause : ℕ → ℕ → Result (List ℕ) Fetch → Type 0
FetchCause before now (Err fetch.Failed) = Rose before now
FetchCause before now (Err fetch.Absent) = now ≡ before
FetchCause before now r = before ≤ now

-- what a store leaves: the bytes under the name; anything or nothing under it, where it failed; or
-- all as before
abbrev pub Stores : List ℕ → List ℕ → Option Named → Option Named → Result (Unit {0}) Store → Type 0
Stores name bytes old new (Ok u) = new ≡ option_map (λ files. with_file files name (Some bytes)) old
Stores name bytes old new (Err store.Failed) = (left : Option (List ℕ))
    × (new ≡ option_map (λ files. with_file files name left) old)
Stores name bytes old new (Err store.OutOfMemory) = new ≡ old

-- the count of faults goes by the answer of a store
abbrev pub StoreCause : ℕ → ℕ → Result (Unit {0}) Store → Type 0
StoreCause before now (Err store.Failed) = Rose before now
StoreCause before now r = before ≤ now

-- the count of faults after a fetch that counts nothing but its failures
abbrev pub fetch_count : ℕ → Result (List ℕ) Fetch → ℕ
fetch_count before (Err fetch.Failed) = risen before
fetch_count before r = before

-- the count of faults after a store that counts nothing but its failures
abbrev pub store_count : ℕ → Result (Unit {0}) Store → ℕ
store_count before (Err store.Failed) = risen before
store_count before r = before
