-- What an outcome says.
use Rattle.std.proofs.Common.{◌≡◌, ◌↔◌, ℕ, zero, suc, ◌<◌, Bool, true, false, refl, ap, sym, ◌∙◌, subst, inl, inr, List, [], ◌∷◌, length, map, get_or, arith}
use Rattle.std.specs.Prelude.{if◌then◌else◌, not}
use Rattle.std.specs.List.{Contains}
use Rattle.std.proofs.lemmas.Bool.{cases_lt, and_parts, and_from, false≢true}
use Rattle.std.proofs.lemmas.List.Elements.{at_from_Contains}
use Rattle.dim_asm.specs.Code.{Code, thread_count}
use Rattle.dim_rag.specs.declared.entry.Edge.{Edge}
use Rattle.dim_rag.specs.declared.entry.Entry.{Entry}
use Rattle.dim_rag.specs.declared.entry.Mode.{Mode}
use Rattle.dim_rag.specs.declared.entry.Mode.TheVariants.{Running, Allowed, Yielding, Ended}
use Rattle.dim_rag.specs.History.{past, mode}
use Rattle.dim_rag.specs.Steps.{IsCycle, AreCycles, CyclesLaw, births}
use Rattle.dim_rag.specs.Tables.{Replay}
use Rattle.dim_rag.specs.Waits.{waits, WaitsLaw}
use Rattle.dim_gate.specs.Gate.{Gate}
use Rattle.dim_gate.specs.Settled.{HasEnded}
use Rattle.dim_monitor.specs.Found.{cycles_of}
use Rattle.dim_run.specs.declared.playing.Outcome.{Outcome}
use Rattle.dim_run.specs.declared.playing.Outcome.TheVariants.{Finished, Deadlocked, Stalled}
use Rattle.dim_run.specs.Run.{is_empty, is_ended, all_ended, has_cycle, outcome_by, outcome_of}
use Rattle.dim_run.specs.Settle.{IsTwin}
use Rattle.dim_run.specs.Outcome.{HasCycle, HaveEnded, OutcomeLaw}

-- a cycle stands where the search finds one
module _ (n : ℕ) (h : List Entry) (a : AreCycles (waits n h) (cycles_of n h)) where
  found_in : (cs : List (List Edge)) → a.cycles ≡ cs → has_cycle n h ≡ true → HasCycle n h
  found_in [] e q = absurd (false≢true (sym (ap (λ (bs : List (List ℕ)). not (is_empty bs)) (a.births_are ∙ ap (map births) e)) ∙ q))
  found_in (c ∷ cs) e q =
      (c, subst (λ (all : List (List Edge)). (i : ℕ) (d : List Edge) → i < length all → IsCycle (waits n h) (get_or all i d)) e a.each 0 [] (omega arith))

  stands_in : (cs : List (List Edge)) → a.cycles ≡ cs → (c : List Edge) → Contains cs c → has_cycle n h ≡ true
  stands_in [] e c k = let w = at_from_Contains [] c k in absurd (omega (arith, w.1))
  stands_in (d ∷ cs) e c k = ap (λ (bs : List (List ℕ)). not (is_empty bs)) (a.births_are ∙ ap (map births) e)

  cycle_found : has_cycle n h ≡ true → HasCycle n h
  cycle_found q = found_in a.cycles refl q

  cycle_stands : HasCycle n h → has_cycle n h ≡ true
  cycle_stands k = stands_in a.cycles refl k.0 (a.whole k.0 k.1)

-- threads that have ended
ended_by : (m : Mode) → is_ended m ≡ true → (place : ℕ) × (m ≡ Ended place)
ended_by (Ended place) q = (place, refl)
ended_by Running q = absurd (false≢true q)
ended_by (Allowed l birth) q = absurd (false≢true q)
ended_by (Yielding l place) q = absurd (false≢true q)

have_ended : (n : ℕ) (h : List Entry) → all_ended n h ≡ true → HaveEnded n h
have_ended zero h q t less = absurd (omega (arith, less))
have_ended (suc n) h q t less =
    let both = and_parts (all_ended n h) (is_ended (mode n h)) q in
    elim (cases_lt t n) [
      | inl low ↦ have_ended n h both.0 t low
      | inr high ↦ let same : n ≡ t = omega (arith, less, high) in subst (λ u. HasEnded u h) same (ended_by (mode n h) both.1)
    ]

all_have : (n : ℕ) (h : List Entry) → HaveEnded n h → all_ended n h ≡ true
all_have zero h k = refl
all_have (suc n) h k = and_from (all_ended n h) (is_ended (mode n h)) (all_have n h (λ t less. k t (omega (arith, less)))) (ap is_ended (k n (omega arith)).1)

-- the outcome by the two tests
module _ (C E : Type 0) where
  abbrev by : Bool → Bool → Outcome
  by cycle ended = if cycle then Deadlocked else (if ended then Finished else Stalled)

  deadlocked_by : (c e : Bool) → (c ≡ true → C) → (C → c ≡ true) → (by c e ≡ Deadlocked) ↔ C
  deadlocked_by true e found stands = (λ q. found refl, λ k. refl)
  deadlocked_by false true found stands = (λ q. absurd (cc), λ k. absurd (false≢true (stands k)))
  deadlocked_by false false found stands = (λ q. absurd (cc), λ k. absurd (false≢true (stands k)))

  finished_by : (c e : Bool) → (c ≡ true → C) → (C → c ≡ true) → (e ≡ true → E) → (E → e ≡ true) → (by c e ≡ Finished) ↔ ((C → ⊥) × E)
  finished_by true e found stands all each = (λ q. absurd (cc), λ k. absurd (k.0 (found refl)))
  finished_by false true found stands all each = (λ q. (λ k. false≢true (stands k), all refl), λ k. refl)
  finished_by false false found stands all each = (λ q. absurd (cc), λ k. absurd (false≢true (each k.1)))

  stalled_by : (c e : Bool) → (c ≡ true → C) → (C → c ≡ true) → (e ≡ true → E) → (E → e ≡ true) → (by c e ≡ Stalled) ↔ ((C → ⊥) × (E → ⊥))
  stalled_by true e found stands all each = (λ q. absurd (cc), λ k. absurd (k.0 (found refl)))
  stalled_by false true found stands all each = (λ q. absurd (cc), λ k. absurd (k.1 (all refl)))
  stalled_by false false found stands all each = (λ q. (λ k. false≢true (stands k), λ k. false≢true (each k)), λ k. refl)

pub outcome_law : CyclesLaw → WaitsLaw → OutcomeLaw
outcome_law cycles waits_law = record {
  deadlocked = λ n h. deadlocked_by (HasCycle n h) (HaveEnded n h) (has_cycle n h) (all_ended n h) (cycle_found n h (exact n h)) (cycle_stands n h (exact n h));
  finished = λ n h. finished_by (HasCycle n h) (HaveEnded n h) (has_cycle n h) (all_ended n h) (cycle_found n h (exact n h)) (cycle_stands n h (exact n h)) (have_ended n h) (all_have n h);
  stalled = λ n h. stalled_by (HasCycle n h) (HaveEnded n h) (has_cycle n h) (all_ended n h) (cycle_found n h (exact n h)) (cycle_stands n h (exact n h)) (have_ended n h) (all_have n h);
}
  where
    exact : (n : ℕ) (h : List Entry) → AreCycles (waits n h) (cycles_of n h)
    exact n h = (cycles (waits n h) n (waits_law n h)).0

-- told from a monitor that has taken what the gate has, it is that of the entries
pub outcome_at : (p : Code) (g : Gate) (m : Replay) (entries : List Entry) (o : Outcome) → IsTwin g m → g.threads ≡ thread_count p → entries ≡ g.entries → o ≡ outcome_by m.threads (past m.entries) → o ≡ outcome_of p entries
outcome_at p g m entries o twin threads same told =
    told ∙ ap (λ n. outcome_by n (past m.entries)) (twin.threads ∙ threads)
    ∙ ap (λ (es : List Entry). outcome_by (thread_count p) (past es)) (twin.entries ∙ sym same)
