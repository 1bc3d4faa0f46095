-- How many attempts are made: as many as tests find.
use Rattle.std.proofs.Common.{◌≡◌, ℕ, zero, suc, ◌+◌, ◌-◌, ◌<◌, ◌≤◌, List, length, Bool, true, refl, sym, ap, ◌∙◌, arith, inl, inr}
use Rattle.std.specs.Prelude.{nat_le}
use Rattle.std.proofs.lemmas.Bool.{and_parts, and_from, both_ways, cases_Bool, cases_lt, cond-true, cond-false, false≢true, le-leb, leb-true}
use Rattle.dim_signature.specs.Sig.{Sig}
use Rattle.dim_history_file.specs.Spelling.{history_text}
use Rattle.dim_history_file.specs.Value.{named}
use Rattle.dim_run.specs.declared.playing.Outcome.{Outcome}
use Rattle.dim_run.specs.declared.playing.Outcome.TheVariants as outcomes
use Rattle.dim_schedule.specs.declared.settings.Settings.{Settings}
use Rattle.dim_tune.specs.declared.attempt.Attempt.{Attempt}
use Rattle.dim_tune.specs.Attempts.{attempt_after, AreAttempts, AreLoadable, HasLearnt, IsFollowed}
use Rattle.dim_commands.specs.Immunize.{is_deadlocked, has_learnt, are_loadable, goes_on, last_from, last_of, sigs_at}
use Rattle.dim_inquiry.specs.Inputs.{Inputs, names_of, program_of, loaded_of}

-- ---- reason for one more

ends_deadlocked : (o : Outcome) → is_deadlocked o ≡ true → o ≡ outcomes.Deadlocked
ends_deadlocked outcomes.Finished e = absurd (false≢true e)
ends_deadlocked outcomes.Deadlocked e = refl
ends_deadlocked outcomes.Stalled e = absurd (false≢true e)

learnt : (a : Attempt) → has_learnt a ≡ true → HasLearnt a
learnt a e =
    let both = and_parts (is_deadlocked a.outcome) (nat_le 1 a.learnt) e in
    record { deadlocked = ends_deadlocked a.outcome both.0; learnt = leb-true 1 a.learnt both.1 }

learnt_from : (a : Attempt) → HasLearnt a → has_learnt a ≡ true
learnt_from a h = and_from (is_deadlocked a.outcome) (nat_le 1 a.learnt) (ap is_deadlocked h.deadlocked) (le-leb 1 a.learnt h.learnt)

loadable : (names : List (List ℕ)) (sigs : List Sig) → are_loadable names sigs ≡ true → AreLoadable names sigs
loadable names sigs e =
    let bytes = length (history_text (named names sigs)) in
    let both = and_parts (nat_le (length sigs) 4080) (nat_le bytes 6291456) e in
    record { few = leb-true (length sigs) 4080 both.0; short = leb-true bytes 6291456 both.1 }

loadable_from : (names : List (List ℕ)) (sigs : List Sig) → AreLoadable names sigs → are_loadable names sigs ≡ true
loadable_from names sigs h =
    let bytes = length (history_text (named names sigs)) in
    and_from (nat_le (length sigs) 4080) (nat_le bytes 6291456) (le-leb (length sigs) 4080 h.few) (le-leb bytes 6291456 h.short)

followed : (x : Inputs) (s : Settings) (i : ℕ) → goes_on x s i ≡ true → IsFollowed (names_of x) (program_of x) s (loaded_of x) i
followed x s i e =
    let a = attempt_after (program_of x) s (loaded_of x) i in
    let sigs = sigs_at x s (suc i) in
    let both = and_parts (has_learnt a) (are_loadable (names_of x) sigs) e in
    record { learnt = learnt a both.0; loadable = loadable (names_of x) sigs both.1 }

followed_from : (x : Inputs) (s : Settings) (i : ℕ) → IsFollowed (names_of x) (program_of x) s (loaded_of x) i → goes_on x s i ≡ true
followed_from x s i h =
    let a = attempt_after (program_of x) s (loaded_of x) i in
    let sigs = sigs_at x s (suc i) in
    and_from (has_learnt a) (are_loadable (names_of x) sigs) (learnt_from a h.learnt) (loadable_from (names_of x) sigs h.loadable)

-- ---- the last one

-- each before the last goes on, and the last does not where one more may be made
last_by : (goes : ℕ → Bool) (i k n : ℕ) → suc i ≤ n → n ≤ suc (i + k)
    → ((j : ℕ) → suc j < n → goes j ≡ true) → ((j : ℕ) → suc j ≡ n → n < suc (i + k) → goes j ≡ true → ⊥)
    → n ≡ suc (last_from goes i k)
unfolding last_from
last_by goes i zero n low high on off = omega (arith, low, high)
last_by goes i (suc k) n low high on off = elim (cases_Bool (goes i)) [
  | inl more ↦ elim (cases_lt (suc i) n) [
    | inl lt ↦
        last_by goes (suc i) k n lt (omega (arith, high)) on (λ j e le. off j e (omega (arith, le)))
        ∙ ap suc (sym (cond-true (goes i) (last_from goes (suc i) k) i more))
    | inr le ↦ absurd (off i (omega (arith, low, le)) (omega (arith, le)) more)
  ]
  | inr less ↦ elim (cases_lt (suc i) n) [
    | inl lt ↦ absurd (both_ways (goes i) less (on i lt))
    | inr le ↦
        let same : n ≡ suc i = omega (arith, low, le) in
        same ∙ ap suc (sym (cond-false (goes i) (last_from goes (suc i) k) i less))
  ]
]

pub last_is : (x : Inputs) (s : Settings) (k n : ℕ) → 1 ≤ k → AreAttempts (names_of x) (program_of x) s (loaded_of x) k n → n ≡ suc (last_of x s k)
unfolding last_of
last_is x s k n some a =
    let few = a.few in
    last_by (goes_on x s) 0 (k - 1) n a.some (omega (arith, some, few)) (λ j lt. followed_from x s j (a.followed j lt))
    (λ j e lt more. a.ends j e (omega (arith, some, lt)) (followed x s j more))
