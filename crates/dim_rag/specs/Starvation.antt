-- Steps of threads that wait or yield, and the starvations that they make.
use Rattle.std.specs.Prelude.{◌≡◌, ◌≢◌, ℕ, ◌==◌, ◌<◌, ◌≤◌, nat_lt, Bool, true, false, ◌&&◌, not, ◌⊎◌, ◌↔◌, if◌then◌else◌, List, length, take, slice_index_or, Option, Some, None, is_none, AllPairs}
use Rattle.std.specs.Option.{option_or, option_and_then}
use Rattle.std.specs.List.{list_any}
use Rattle.dim_base.specs.declared.Lid.{Lid}
use Rattle.dim_rag.specs.declared.entry.Edge.{Edge}
use Rattle.dim_rag.specs.declared.entry.Entry.{Entry}
use Rattle.dim_rag.specs.declared.entry.Mode.TheVariants.{Allowed}
use Rattle.dim_rag.specs.declared.graph.trail.Trail.{Trail}
use Rattle.dim_rag.specs.declared.graph.trail.Trail.TheVariants as trail
use Rattle.dim_rag.specs.History.{mode}
use Rattle.dim_rag.specs.Holder.{holder}
use Rattle.dim_rag.specs.Fits.{AreInRange}
use Rattle.dim_rag.specs.Born.{IsEdge, edge_born}
use Rattle.dim_rag.specs.Edges.{standing}
use Rattle.dim_rag.specs.Waits.{waits}
use Rattle.dim_rag.specs.Steps.{Step, HasOwner, IsCycle, births, run_into, RunsInto}
use Rattle.dim_rag.specs.Stuck.{is_yielding, choice}
use Rattle.dim_rag.specs.FirstFailing.{first_failing, IsFirstFailing}
use Rattle.dim_rag.specs.Certificate.{held_at, passes_at}

-- the edge to which t steps, among n threads and m locks: the hold edge on the lock on which it is
-- allowed, or, where it yields and all its causes stand, the edge of the first of them
abbrev pub step : ℕ → ℕ → List Entry → ℕ → Option Edge
step n m h t = option_or (waits n h t) (option_and_then (edge_born h) (standing n m t h))

-- a starvation, by position: each owner steps to the next edge, and the last to the first, as in a
-- cycle; at least one of them yields; and the locks are pairwise distinct
pub record IsStarvation (n m : ℕ) (h : List Entry) (c : List Edge) : Type 0 where
  pub cycle : IsCycle (step n m h) c
  pub yields : (t : ℕ) × HasOwner t c × (is_yielding (mode t h) ≡ true)
  pub apart : AllPairs (λ (x y : Edge). x.l.0 ≢ y.l.0) c

-- whether an edge is there and is on this lock
abbrev pub is_on : ℕ → Option Edge → Bool
is_on l None = false
is_on l (Some e) = e.l.0 == l

-- whether an edge is there, and its lock is that of no edge with one of these births
abbrev pub has_new_lock : List Entry → List ℕ → Option Edge → Bool
has_new_lock h earlier None = false
has_new_lock h earlier (Some e) = not (list_any (λ p. is_on e.l.0 (edge_born h p)) earlier)

-- whether an edge is there and its owner yields
abbrev pub is_of_yielder : List Entry → Option Edge → Bool
is_of_yielder h None = false
is_of_yielder h (Some e) = is_yielding (mode e.t.0 h)

-- whether the owner of an edge with one of these births yields
abbrev pub someone_yields : List Entry → List ℕ → Bool
someone_yields h ps = list_any (λ p. is_of_yielder h (edge_born h p)) ps

-- whether position i of some places passes: its place is the birth of an edge whose owner steps to
-- that with the next birth and, for i above 0, has a greater number than the owner at position 0,
-- and whose lock differs from those of the positions before it
abbrev pub starves_at : ℕ → ℕ → List Entry → List ℕ → ℕ → Bool
starves_at n m h ps i =
    passes_at (edge_born h) (step n m h) ps i
    && has_new_lock h (take i ps) (edge_born h (slice_index_or ps i 0))

-- the first position that does not pass, or 0 for fewer than two, and where all pass and nobody
-- yields
abbrev pub starvation_fault : ℕ → ℕ → List Entry → List ℕ → Option ℕ
starvation_fault n m h ps =
    if nat_lt (length ps) 2 then Some 0 else option_or (first_failing (starves_at n m h ps) (length ps)) (if someone_yields h ps then None else Some 0)

-- some places, if they are the births of a starvation
abbrev pub if_starvation : ℕ → ℕ → List Entry → List ℕ → Option (List ℕ)
if_starvation n m h ps = if is_none (starvation_fault n m h ps) then Some ps else None

-- the births of the starvation into which steps from t run, if there is one
abbrev pub starved_from : ℕ → ℕ → List Entry → ℕ → Option (List ℕ)
starved_from n m h t = option_and_then (if_starvation n m h) (run_into (step n m h) n n t)

-- the births of the starvation of a set, if it has one: the one into which steps from its choice
-- run
abbrev pub starved : ℕ → ℕ → List Entry → ℕ → Option (List ℕ)
starved n m h set = option_and_then (starved_from n m h) (choice set m h n)

-- the steps of a trail, and the edges that it finds by their births
abbrev pub step_on : Trail → ℕ → ℕ → List Entry → Step
step_on trail.Cycle n m h = waits n h
step_on trail.Starvation n m h = step n m h

abbrev pub found_on : Trail → ℕ → ℕ → List Entry → Step
found_on trail.Cycle n m h = held_at n m h
found_on trail.Starvation n m h = edge_born h

-- t is allowed on a lock, and e is the hold edge, of n threads, on it
pub record WaitsFor (n t : ℕ) (h : List Entry) (e : Edge) : Type 0 where
  pub lock : Lid
  pub birth : ℕ
  pub allowed : mode t h ≡ Allowed lock birth
  pub held : holder n lock.0 h ≡ Some e

-- all causes of t stand, and e is the edge of the first of them
pub record IsKeptBy (n m t : ℕ) (h : List Entry) (e : Edge) : Type 0 where
  pub edge : IsEdge h e
  pub first : standing n m t h ≡ Some e.birth

-- what a step is, in full; it leads to one of the n threads
pub record StepLaw : Type 0 where
  pub exact : (n m t : ℕ) (h : List Entry) (e : Edge)
      → (step n m h t ≡ Some e) ↔ (WaitsFor n t h e ⊎ IsKeptBy n m t h e)
  pub thread : (n m : ℕ) (h : List Entry) → AreInRange n m h → (t : ℕ) (e : Edge)
      → step n m h t ≡ Some e → e.t.0 < n

-- places pass exactly where they are the births of a starvation
abbrev pub StarvationLaw : Type 0
StarvationLaw = (n m : ℕ) (h : List Entry) (ps : List ℕ)
    → (starvation_fault n m h ps ≡ None)
    ↔ ((c : List Edge) × IsStarvation n m h c × (births c ≡ ps))

-- fewer than two places fail at 0. Of more, the first position that does not pass is found; where
-- each does, none is found if somebody yields, and else 0
pub record StarvationFaultLaw : Type 0 where
  pub few : (n m : ℕ) (h : List Entry) (ps : List ℕ) → length ps < 2
      → starvation_fault n m h ps ≡ Some 0
  pub first : (n m : ℕ) (h : List Entry) (ps : List ℕ) → 2 ≤ length ps → (i : ℕ)
      → IsFirstFailing (starves_at n m h ps) (length ps) (Some i)
      → starvation_fault n m h ps ≡ Some i
  pub none : (n m : ℕ) (h : List Entry) (ps : List ℕ) → 2 ≤ length ps
      → IsFirstFailing (starves_at n m h ps) (length ps) None → starvation_fault n m h ps ≡ (if someone_yields h ps then None else Some 0)

-- the starvation of a set with a choice is the one that following steps from the choice runs into
abbrev pub StarvedLaw : Type 0
StarvedLaw = (n m : ℕ) (h : List Entry) → AreInRange n m h → (set u : ℕ) → choice set m h n ≡ Some u
    → (ps : List ℕ)
    → (starved n m h set ≡ Some ps)
    ↔ ((c : List Edge) × IsStarvation n m h c × RunsInto (step n m h) u c × (births c ≡ ps))

-- the births of a starvation are no births of a cycle, since a thread of it yields
abbrev pub NoCycleLaw : Type 0
NoCycleLaw = (n m : ℕ) (h : List Entry) (c d : List Edge) → IsStarvation n m h c
    → IsCycle (waits n h) d → births c ≢ births d
