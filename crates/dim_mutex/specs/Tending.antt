-- What the tender leaves of a domain.
use Rattle.std.specs.Prelude.{◌≡◌, ℕ, ◌+◌, ◌*◌, ◌^◌, ◌<◌, ◌≤◌, ◌==◌, ◌||◌, ◌⊎◌, Bool, true, false, List, [], ◌∷◌, ◌++◌, length, slice_get, Some}
use Rattle.dim_rag.specs.declared.entry.Entry.{Entry}
use Rattle.dim_rag.specs.declared.entry.Entry.TheVariants.{Break}
use Rattle.dim_rag.specs.History.{past}
use Rattle.dim_gate.specs.Legal.{Legal}
use Rattle.dim_gate.specs.Immune.{IsImmune}
use Rattle.dim_run.specs.Callers.{Known}
use Rattle.dim_run.specs.Settle.{breaks, settled}
use Rattle.dim_mutex.specs.declared.closed.Closed.{Closed}
use Rattle.dim_mutex.specs.declared.holdings.Holdings.{Holdings}
use Rattle.dim_mutex.specs.Holdings.{KeepsHoldings}
use Rattle.dim_mutex.specs.Standing.{is_allowed, mode_of, wanted, owed, HoldsSame}
use Rattle.dim_mutex.specs.Views.{DomainView, CallerView, opening, allowance_of, fresh, AreCallersOf}
use Rattle.dim_mutex.specs.Closing.{EndsWith, IsClosedWith}

-- whether a Break of t is among these entries
abbrev pub is_broken : ℕ → List Entry → Bool
is_broken t [] = false
is_broken t (Break set u ∷ h) = (u.0 == t) || is_broken t h
is_broken t (e ∷ h) = is_broken t h

-- A caller goes on in the new turn: it has seen the history there and may make the allowance. It
-- holds what it held and waits for what it waited for, and where one of these entries breaks it out
-- it is allowed.
pub record GoesOn (d : DomainView) (newer : List Entry) (allowance : ℕ) (k k' : Known) : Type 0 where
  pub begins : k' ≡ fresh (opening d) k.number allowance
  pub same : HoldsSame k k'
  pub wants : wanted k' ≡ wanted k
  pub broken : is_broken k.number newer ≡ true → is_allowed (mode_of k') ≡ true

-- The turn of d is closed with a history; a settle adds to it exactly its entries, of which so many
-- are Breaks; and d' is the new turn over that, with the same gate and the same callers.
pub record Tended (d d' : DomainView) (cs cs' : List CallerView) (allowance count : ℕ) : Type 0 where
  pub end : List Entry
  pub ends : EndsWith d cs end
  pub newer : List Entry
  pub adds : past (opening d').history ≡ newer ++ past end
  pub settles : past (opening d').history ≡ settled (opening d).constants (past end)
  pub counts : breaks (past end) + count ≡ breaks (past (opening d').history)
  pub legal : Legal (opening d).constants (past (opening d').history)
  pub immune : IsImmune (opening d).constants.loaded (opening d).constants.depth (past (opening d').history)
  pub constants_are : (opening d').constants ≡ (opening d).constants
  pub callers_are : (opening d').callers ≡ (opening d).callers
  pub allowance_is : allowance_of d' ≡ allowance
  pub callers : AreCallersOf d' cs'
  pub each : (i : ℕ) (c c' : CallerView) → slice_get cs i ≡ Some c → slice_get cs' i ≡ Some c' → GoesOn d' newer allowance c.known c'.known

-- where memory ran out: the turn of d is closed with a history, all of the settle's entries were
-- added, or none, and what is left is legal and immune
pub record IsLeft (d : DomainView) (cs : List CallerView) (x : Closed) : Type 0 where
  pub end : List Entry
  pub ends : EndsWith d cs end
  pub all_or_none : (x.tables.entries ≡ end) ⊎ (past x.tables.entries ≡ settled (opening d).constants (past end))
  pub legal : Legal (opening d).constants (past x.tables.entries)
  pub immune : IsImmune (opening d).constants.loaded (opening d).constants.depth (past x.tables.entries)
  pub closed : IsClosedWith (opening d).constants x.tables.entries x

-- the allowance of a new turn: enough for each caller to go on, and for all of them there is room
pub record MayAllow (d : DomainView) (cs : List CallerView) (allowance bound : ℕ) : Type 0 where
  pub few : allowance ≤ 65536
  pub enough : (i : ℕ) (c : CallerView) → slice_get cs i ≡ Some c → owed c.known + 2 ≤ allowance
  pub room : bound + 80 + (opening d).callers * allowance < 2 ^ 32

-- where a caller and holdings stand at one place, they are the caller's
abbrev pub EachKept : List CallerView → List Holdings → Type 0
EachKept cs bs = (i : ℕ) (c : CallerView) (b : Holdings) → slice_get cs i ≡ Some c → slice_get bs i ≡ Some b → KeepsHoldings c.known b

-- these are the holdings of these callers, one for each, in order
pub record AreKept (cs : List CallerView) (bs : List Holdings) : Type 0 where
  pub all : length bs ≡ length cs
  pub each : EachKept cs bs
