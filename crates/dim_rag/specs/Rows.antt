-- What is kept of each thread and each lock, and when that is right.
use Rattle.std.specs.Prelude.{◌≡◌, ℕ, suc, ◌==◌, ◌+◌, ◌-◌, ◌<◌, ◌≤◌, ◌^◌, nat_lt, Bool, true, false, ◌&&◌, ⊤, if◌then◌else◌, List, [], ◌∷◌, length, slice_index_or, slice_set, Option, Some, None, option_map, unwrap_or, All, IfSome, MatchOption}
use Rattle.dim_base.specs.declared.Tid.{Tid}
use Rattle.dim_base.specs.declared.Lid.{Lid}
use Rattle.dim_stack.specs.declared.Frame.{Frame}
use Rattle.dim_stack.specs.Filled.{no_frame}
use Rattle.dim_rag.specs.declared.entry.Edge.{Edge}
use Rattle.dim_rag.specs.declared.entry.Entry.{Entry}
use Rattle.dim_rag.specs.declared.entry.Entry.TheVariants.{Go, Yield, Got, Free, Took, Miss, End, Break, Learn}
use Rattle.dim_rag.specs.declared.entry.Mode.{Mode}
use Rattle.dim_rag.specs.declared.entry.Mode.TheVariants.{Running, Allowed, Yielding, Ended}
use Rattle.dim_rag.specs.declared.graph.row.Row.{Row}
use Rattle.dim_rag.specs.History.{mode, hold, allow, count, latest_wish, latest_grant, past}
use Rattle.dim_rag.specs.Counts.{count_by}
use Rattle.dim_rag.specs.Fits.{Fits, AreInRange}
use Rattle.dim_rag.specs.Asks.{may_ask}
use Rattle.dim_rag.specs.Tables.{thread_of, held_by, HasLockBelow}

-- the row of a thread of which there is no word
abbrev pub idle_row : Row
idle_row = record { mode = Running; stack = no_frame ∷ []; births = [] }

-- the allow edge of a thread, by its mode and the stack of its latest request
abbrev pub edge_in : Tid → Mode → List Frame → Option Edge
edge_in t (Allowed l birth) s = Some record { t = t; l = l; stack = s; birth = birth }
edge_in t Running s = None
edge_in t (Yielding l place) s = None
edge_in t (Ended place) s = None

-- the edge that a thread gets when it is broken out at a place, by its mode and the stack of its
-- latest request
abbrev pub wished_in : Tid → ℕ → Mode → List Frame → Option Edge
wished_in t place (Yielding l p) s = Some record { t = t; l = l; stack = s; birth = place }
wished_in t place (Allowed l birth) s = None
wished_in t place Running s = None
wished_in t place (Ended p) s = None

-- the allow edge on l that a row of t says
abbrev pub allowed_on : ℕ → ℕ → Mode → List Frame → Option Edge
allowed_on t l (Allowed m birth) s = if m.0 == l then Some record { t = record { 0 = t }; l = m; stack = s; birth = birth } else None
allowed_on t l Running s = None
allowed_on t l (Yielding m place) s = None
allowed_on t l (Ended place) s = None

-- what else is known of a thread in its mode
abbrev pub IsMode : ℕ → Mode → List Frame → List ℕ → List Entry → Type 0
IsMode t (Allowed m birth) s births h = (hold t m.0 h ≡ None)
    × (latest_grant t m.0 h ≡ Some record { t = record { 0 = t }; l = m; stack = s; birth = birth })
IsMode t (Yielding m place) s births h = (hold t m.0 h ≡ None)
    × (latest_wish t h ≡ Some record { lock = m; stack = s; births = births; place = place })
IsMode t Running s births h = ⊤
IsMode t (Ended place) s births h = ⊤

-- the row of t is that of the history
pub record IsRow (t : ℕ) (r : Row) (h : List Entry) : Type 0 where
  pub mode_is : mode t h ≡ r.mode
  pub allow_is : (l : ℕ) → allow t l h ≡ allowed_on t l r.mode r.stack
  pub more : IsMode t r.mode r.stack r.births h

-- the holder of l is that of the history
abbrev pub IsHolder : ℕ → Option Edge → List Entry → Type 0
IsHolder l o h = (t : ℕ) → hold t l h ≡ held_by t o

-- how often l is held is that of the history, by the holder of l, who holds it once or more
pub record IsCount (l : ℕ) (o : Option Edge) (n : ℕ) (h : List Entry) : Type 0 where
  pub count_is : (t : ℕ) → count t l h ≡ count_by t o n
  pub held : MatchOption o (n ≡ 0) (λ e. 1 ≤ n)
  pub most : n ≤ 255

-- whether t may take a lock at once which has this holder and is held so often
abbrev pub may_take_by : ℕ → Option Edge → ℕ → Bool
may_take_by t None n = true
may_take_by t (Some e) n = (e.t.0 == t) && nat_lt n 255

-- rows, holders and counts are those of the history, and so many more entries may come
pub record IsGraph (threads locks spare : ℕ) (rows : List Row) (holders : List (Option Edge)) (counts : List ℕ) (entries : List Entry) : Type 0 where
  pub some_threads : 1 ≤ threads
  pub few_threads : threads ≤ 32
  pub few_locks : locks ≤ 256
  pub row_count : length rows ≡ threads
  pub holder_count : length holders ≡ locks
  pub count_count : length counts ≡ locks
  pub small : length entries + spare < 2 ^ 32
  pub each_row : (t : ℕ) (d : Row) → t < threads → IsRow t (slice_index_or rows t d) (past entries)
  pub each_holder : (l : ℕ) (d : Option Edge) → l < locks
      → IsHolder l (slice_index_or holders l d) (past entries)
  pub each_count : (l : ℕ) → l < locks
      → IsCount l (slice_index_or holders l None) (slice_index_or counts l 0) (past entries)
  pub holders_in : All (λ o. IfSome o (λ e. e.t.0 < threads)) holders
  pub modes_in : All (λ r. HasLockBelow locks r.mode) rows
  pub all_fit : Fits (past entries)
  pub all_in_range : AreInRange threads locks (past entries)

-- the lock that an entry takes or frees
abbrev pub lock_of : Entry → Option Lid
lock_of (Got t l) = Some l
lock_of (Free t l) = Some l
lock_of (Took t l s) = Some l
lock_of _ = None

-- how often its lock is held after an entry, where it was held so often before
abbrev pub count_after : Entry → ℕ → ℕ
count_after (Got t l) n = 1
count_after (Took t l s) n = suc n
count_after (Free t l) n = n - 1
count_after _ n = n

-- whether an entry, whose lock is held so often before it, changes but the count
abbrev pub is_quiet : Entry → ℕ → Bool
is_quiet (Took t l s) n = nat_lt 0 n
is_quiet (Free t l) n = nat_lt 1 n
is_quiet _ n = false

-- how often the lock of an entry is held before it
abbrev pub count_before : List ℕ → Entry → ℕ
count_before counts e = slice_index_or counts (unwrap_or (option_map (λ (l : Lid). l.0) (lock_of e)) 0) 0

-- a count of a lock that may be taken once more
abbrev pub HasRoom : Entry → ℕ → Type 0
HasRoom (Took t l s) n = n < 255
HasRoom _ n = ⊤

-- the mode of a thread that is broken out at a place
abbrev pub broken : ℕ → Mode → Mode
broken place (Yielding l p) = Allowed l place
broken place Running = Running
broken place (Allowed l birth) = Allowed l birth
broken place (Ended p) = Ended p

-- the row of an entry's thread after it
abbrev pub row_after : Row → Entry → ℕ → Row
row_after r (Go t l s) place = record r { mode = Allowed l place; stack = s }
row_after r (Yield t l s sig births) place = record { mode = Yielding l place; stack = s; births = births }
row_after r (Got t l) place = record r { mode = Running }
row_after r (Free t l) place = record r { mode = Running }
row_after r (Took t l s) place = record r { mode = Running }
row_after r (Miss t l s why) place = record r { mode = Running }
row_after r (End t why) place = record r { mode = Ended place }
row_after r (Break set t) place = record r { mode = broken place r.mode }
row_after r (Learn births) place = r

-- the holder of an entry's lock after it, by the row of its thread before it
abbrev pub holder_after : Row → Entry → ℕ → Option Edge
holder_after r (Got t l) place = edge_in t r.mode r.stack
holder_after r (Took t l s) place = Some record { t = t; l = l; stack = s; birth = place }
holder_after r _ place = None

-- the list with a value put in at a place, where there is one
abbrev pub put_at : {A : Type 0} → List A → Option ℕ → A → List A
put_at xs None x = xs
put_at xs (Some i) x = slice_set xs i x

-- the row of an entry's thread before it
abbrev pub row_of : List Row → Entry → Row
row_of rows e = slice_index_or rows (unwrap_or (option_map (λ (t : Tid). t.0) (thread_of e)) 0) idle_row

-- the rows after an entry
abbrev pub rows_after : List Row → Entry → ℕ → List Row
rows_after rows e place = put_at rows (option_map (λ (t : Tid). t.0) (thread_of e)) (row_after (row_of rows e) e place)

-- the holders after an entry
abbrev pub holders_after : List Row → List (Option Edge) → List ℕ → Entry → ℕ → List (Option Edge)
holders_after rows holders counts e place =
    if is_quiet e (count_before counts e) then holders else put_at holders (option_map (λ (l : Lid). l.0) (lock_of e)) (holder_after (row_of rows e) e place)

-- the counts after an entry
abbrev pub counts_after : List ℕ → Entry → List ℕ
counts_after counts e = put_at counts (option_map (λ (l : Lid). l.0) (lock_of e)) (count_after e (count_before counts e))

-- whether a thread with this row may ask for l with this stack
abbrev pub row_may_ask : Lid → List Frame → Row → Bool
row_may_ask l s r = may_ask l s r.mode (Some record { lock = l; stack = r.stack; births = r.births; place = 0 })
