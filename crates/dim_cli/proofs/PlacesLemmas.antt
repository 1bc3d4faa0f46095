-- What a run leaves, by places and by the cycles that stand.
use Rattle.std.proofs.Common.{◌≡◌, ◌≢◌, ◌⊎◌, ◌↔◌, ◌+◌, ◌≤◌, ℕ, zero, suc, List, length, Bool, true, false, cond, ltb, Option, Some, None, Result, Ok, Err, refl, sym, ap, ◌∙◌, subst, inl, inr, arith}
use Rattle.std.specs.Prelude.{slice_get, option_map, ◌||◌}
use Rattle.std.proofs.lemmas.Bool.{cases_Bool, ltb-false}
use Rattle.std.proofs.lemmas.List.{length-map}
use Rattle.std.proofs.lemmas.Option.{slice_get-map}
use Rattle.dim_base.specs.Files.{Named}
use Rattle.dim_asm.specs.Code.{thread_count}
use Rattle.dim_history_file.specs.declared.fault.FileFault.{FileFault}
use Rattle.dim_history_file.specs.Grammar.{IsHistory}
use Rattle.dim_history_file.specs.Judging.{history_of}
use Rattle.dim_history_file.specs.Lengths.{HasGrown}
use Rattle.dim_history_file.specs.Spelling.{history_text}
use Rattle.dim_history_file.specs.Value.{NamedSig, named, named_sig, numbered_sig}
use Rattle.dim_history_file.proofs.Exports.{length_law, spelled_back}
use Rattle.dim_rag.specs.declared.entry.Entry.{Entry}
use Rattle.dim_rag.specs.History.{past}
use Rattle.dim_rag.proofs.Exports.{cycles_law, waits_law}
use Rattle.dim_signature.specs.Sig.{Sig, counted}
use Rattle.dim_execution.specs.Start.{gate_of}
use Rattle.dim_run.specs.declared.playing.Outcome.{Outcome}
use Rattle.dim_run.specs.declared.playing.Outcome.TheVariants.{Finished, Deadlocked, Stalled}
use Rattle.dim_schedule.specs.declared.settings.Settings.{Settings}
use Rattle.dim_run.specs.Crew.{rules_of}
use Rattle.dim_run.specs.Grown.{grown, yields_of}
use Rattle.dim_run.specs.Learnt.{AreLearnt}
use Rattle.dim_run.specs.Outcome.{OutcomeLaw}
use Rattle.dim_run.specs.Run.{outcome_by}
use Rattle.dim_run.proofs.Exports.{learnt_law, outcome_law}
use Rattle.dim_tune.specs.Attempts.{sigs_after}
use Rattle.dim_words.specs.Words.{RunWords, is_dash}
use Rattle.dim_inquiry.specs.declared.report.Report.{Report}
use Rattle.dim_inquiry.specs.declared.stop.Place.TheVariants.{Program}
use Rattle.dim_inquiry.specs.declared.stop.Refusal.{Refusal}
use Rattle.dim_inquiry.specs.declared.stop.Refusal.TheVariants.{BadHistory, Full}
use Rattle.dim_inquiry.specs.Course.{Call, Course, go_on, fetches, ends, gives, refusing, ◌>>=◌}
use Rattle.dim_commands.specs.Immunize.{sigs_at, entries_at, AreLawful}
use Rattle.dim_commands.specs.Lawful.{IsLawful, IsLawfulFrom}
use Rattle.dim_inquiry.specs.Inputs.{Inputs, names_of, program_of, loaded_of}
use Rattle.dim_commands.specs.Output.{Left, grown_from}
use Rattle.dim_inquiry.specs.Report.{status_of}
use Rattle.dim_commands.specs.Report.{ending_of}
use Rattle.dim_commands.specs.Run.{course_with, stores_left}
use Rattle.dim_inquiry.specs.Taking.{assembles, reads, loads, takes, fetches_history, fetches_inputs, IsUnder}
use Rattle.dim_inquiry.proofs.Exports.{under, inputs, behind_read, behind_assembled}
use Rattle.dim_cli.specs.ByPlaces.{TellsCycles, ByPlaces}
use Rattle.dim_cli.specs.Headline.{outcome_status}

-- ---- the status
is_three : (o : Outcome) → (status_of (ending_of o) ≡ 3) ↔ (o ≡ Deadlocked)
is_three Finished = (λ q. absurd (omega (arith, q)), λ q. absurd (cc))
is_three Deadlocked = (λ q. refl, λ q. refl)
is_three Stalled = (λ q. absurd (omega (arith, q)), λ q. absurd (cc))

is_zero : (o : Outcome) → (status_of (ending_of o) ≡ 0) ↔ (o ≡ Finished)
is_zero Finished = (λ q. refl, λ q. refl)
is_zero Deadlocked = (λ q. absurd (omega (arith, q)), λ q. absurd (cc))
is_zero Stalled = (λ q. absurd (omega (arith, q)), λ q. absurd (cc))

is_four : (o : Outcome) → (status_of (ending_of o) ≡ 4) ↔ (o ≡ Stalled)
is_four Finished = (λ q. absurd (omega (arith, q)), λ q. absurd (cc))
is_four Deadlocked = (λ q. absurd (omega (arith, q)), λ q. absurd (cc))
is_four Stalled = (λ q. refl, λ q. refl)

then_iff : {A B C : Type 0} → A ↔ B → B ↔ C → A ↔ C
then_iff f g = (λ a. g.0 (f.0 a), λ c. f.1 (g.1 c))

laws : OutcomeLaw
laws = outcome_law cycles_law waits_law

tells_so : (n : ℕ) (h : List Entry) → TellsCycles n h (status_of (ending_of (outcome_by n h)))
tells_so n h = record {
  deadlocked = then_iff (is_three (outcome_by n h)) (laws.deadlocked n h);
  finished = then_iff (is_zero (outcome_by n h)) (laws.finished n h);
  stalled = then_iff (is_four (outcome_by n h)) (laws.stalled n h);
}

tells : (x : Inputs) (entries : List Entry) (status : ℕ) → (status ≡ outcome_status x entries) ⊎ (status ≡ 8) → status ≢ 8 → TellsCycles (thread_count (program_of x)) (past entries) status
tells x entries status (inl is) other = subst (TellsCycles (thread_count (program_of x)) (past entries)) (sym is) (tells_so (thread_count (program_of x)) (past entries))
tells x entries status (inr eight) other = absurd (other eight)

-- ---- the length of the history
-- a signature that was loaded has grown
named_at : (names : List (List ℕ)) (sigs more : List Sig) → ((i : ℕ) (s : Sig) → slice_get sigs i ≡ Some s → (n : ℕ) × (slice_get more i ≡ Some (counted n s))) → HasGrown (named names sigs) (named names more)
named_at names sigs more f i t q = go (slice_get sigs i) refl (sym (slice_get-map (named_sig names) sigs i) ∙ q)
  where
    go : (o : Option Sig) → slice_get sigs i ≡ o → option_map (named_sig names) o ≡ Some t → (yields : ℕ) × (slice_get (named names more) i ≡ Some record t { yields = yields })
    go None r e = absurd (cc)
    go (Some s) r e =
        let w = f i s r in
        let grown : NamedSig = named_sig names (counted w.0 s) in
        let at : slice_get (named names more) i ≡ Some grown = slice_get-map (named_sig names) more i ∙ ap (λ o. option_map (named_sig names) o) w.1 in
        let same : named_sig names s ≡ t = cc in
        (grown.yields, at ∙ ap (λ (u : NamedSig). Some record u { yields = grown.yields }) same)

module _ (x : Inputs) (sigs : List Sig) (s : Settings) (entries : List Entry) (l : IsLawfulFrom x sigs s entries) where
  abbrev more : List Sig
  more = grown sigs s.depth entries

  are_learnt : AreLearnt (gate_of (program_of x) sigs s.depth) entries more
  are_learnt = learnt_law (rules_of (program_of x) sigs s) entries l.executes

  has_grown : HasGrown (named (names_of x) sigs) (named (names_of x) more)
  has_grown = named_at (names_of x) sigs more (λ i t q. (yields_of i entries, are_learnt.loaded i t q))

  -- a run learns at most 48 signatures
  few_more : length more ≤ length sigs + 48
  few_more = let f = are_learnt.few in omega (arith, f)

  short : length sigs ≤ 4080 → length (history_text (named (names_of x) sigs)) ≤ 6311856 → length (history_text (grown_from x sigs s entries)) ≤ 8388608
  short few low =
      let is : IsHistory (grown_from x sigs s entries) = (spelled_back (history_text (grown_from x sigs s entries)) (grown_from x sigs s entries) l.reads_back).0 in
      let g = length_law.grown (named (names_of x) sigs) (grown_from x sigs s entries) is has_grown in
      let a : length (named (names_of x) sigs) ≡ length sigs = length-map sigs (named_sig (names_of x)) in
      let b : length (grown_from x sigs s entries) ≡ length more = length-map more (named_sig (names_of x)) in
      omega (arith, g, a, b, few, low, few_more)

  -- a run from so few signatures, of so few bytes
  pub by_places : (status : ℕ) → length sigs ≤ 4080 → length (history_text (named (names_of x) sigs)) ≤ 6311856 → (status ≡ outcome_status x entries) ⊎ (status ≡ 8) → ByPlaces x sigs s entries status
  by_places status few low by = record { learnt = are_learnt; short = short few low; tells = tells x entries status by }

-- ---- what was loaded
record IsSmall (sigs : List NamedSig) (bytes : List ℕ) : Type 0 where
  few : length sigs ≤ 4080
  short : length bytes ≤ 6291456

-- a part that ends well, and what comes behind it
behind : {A B : Type 0} (calls : List Call) (e : Result A Refusal) (f : A → Course B) (y : B) → (go_on calls e f).ending ≡ Ok y → (x : A) × (e ≡ Ok x) × ((f x).ending ≡ Ok y)
behind calls (Ok x) f y q = (x, refl, q)
behind calls (Err r) f y q = absurd (cc)

loaded : (sigs : List NamedSig) (bytes : List ℕ) (u : Unit {0}) → (loads sigs bytes).ending ≡ Ok u → IsSmall sigs bytes
loaded sigs bytes u q = go (ltb 4080 (length sigs)) (ltb 6291456 (length bytes)) refl refl q
  where
    go : (a b : Bool) → ltb 4080 (length sigs) ≡ a → ltb 6291456 (length bytes) ≡ b → (cond (a || b) (ends {A = Unit {0}} (Err (Full (length sigs) (length bytes)))) (gives tt)).ending ≡ Ok u → IsSmall sigs bytes
    go true b e f q = absurd (cc)
    go false true e f q = absurd (cc)
    go false false e f q = record { few = ltb-false 4080 (length sigs) e; short = ltb-false 6291456 (length bytes) f }

-- two texts under one name
same_under : (before : Named) (name a b : List ℕ) → IsUnder before name a → IsUnder before name b → a ≡ b
same_under before name a b p q = elim (cases_Bool (is_dash name)) [
  | inl dash ↦ p.dash dash ∙ sym (q.dash dash)
  | inr file ↦ let e = sym (p.file file) ∙ q.file file in cc
]

same_sigs : (a b : List ℕ) (x y : List NamedSig) → a ≡ b → history_of a ≡ Ok x → history_of b ≡ Ok y → x ≡ y
same_sigs a b x y same p q = let e = sym p ∙ ap history_of same ∙ q in cc

read_so : (history : List ℕ) (sigs : List NamedSig) → (reads history).ending ≡ Ok sigs → history_of history ≡ Ok sigs
read_so history sigs q = go (history_of history) q
  where
    go : (r : Result (List NamedSig) FileFault) → refusing BadHistory r ≡ Ok sigs → r ≡ Ok sigs
    go (Ok y) e = cc
    go (Err f) e = absurd (cc)

taken_small : (program history : List ℕ) (x : Inputs) → (takes program history).ending ≡ Ok x → (sigs : List NamedSig) × (history_of history ≡ Ok sigs) × IsSmall sigs history
unfolding takes
taken_small program history x q =
    let a = behind (assembles program).calls (assembles program).ending (behind_assembled history) x q in
    let b = behind (reads history).calls (reads history).ending (behind_read a.0 history) x a.2 in
    let c = behind (loads b.0 history).calls (loads b.0 history).ending (λ u. gives (inputs a.0 b.0)) x b.2 in
    (b.0, read_so history b.0 b.1, loaded b.0 history c.0 c.1)

module _ (w : RunWords) (before : Named) (history : List ℕ) (sigs : List NamedSig) (is_under : IsUnder before w.history history) (read : history_of history ≡ Ok sigs) where
  fetched_small : (x : Inputs) → (fetches_inputs before w.program w.history).ending ≡ Ok x → IsSmall sigs history
  unfolding fetches_inputs
  fetched_small x q =
      let program = fetches before Program w.program 4194304 in
      let a = behind program.calls program.ending (λ (p : List ℕ). fetches_history before w.history >>= λ h. takes p h) x q in
      let b = behind (fetches_history before w.history).calls (fetches_history before w.history).ending (λ h. takes a.0 h) x a.2 in
      let t = taken_small a.0 b.0 x b.2 in
      let same : b.0 ≡ history = same_under before w.history b.0 history (under before w.history b.0 b.1) is_under in
      subst (λ (ss : List NamedSig). IsSmall ss history) (same_sigs b.0 history t.0 sigs same t.1 read) (subst (IsSmall t.0) same t.2)

  -- where a run's course ends with a report, the history that it read is small
  small : (left : Inputs → Left) (report : Report) → (course_with left before w).ending ≡ Ok report → IsSmall sigs history
  unfolding course_with
  small left report q =
      let all = fetches_inputs before w.program w.history in
      let a = behind all.calls all.ending (λ y. stores_left w.new_history w.trace (left y)) report q in
      fetched_small a.0 a.1

-- what was loaded of a small history
module _ (x : Inputs) (history : List ℕ) (loaded_is : named (names_of x) (loaded_of x) ≡ x.sigs) (read : history_of history ≡ Ok x.sigs) (is_small : IsSmall x.sigs history) where
  few_loaded : length (loaded_of x) ≤ 4080
  few_loaded =
      let few = is_small.few in
      let n : length (loaded_of x) ≡ length x.sigs = length-map x.sigs (numbered_sig (names_of x)) in
      omega (arith, few, n)

  short_loaded : length (history_text (named (names_of x) (loaded_of x))) ≤ 6311856
  short_loaded =
      let few = is_small.few in
      let bytes = is_small.short in
      let e : length (history_text (named (names_of x) (loaded_of x))) ≡ length (history_text x.sigs) = ap (λ (ss : List NamedSig). length (history_text ss)) loaded_is in
      omega (arith, few, bytes, e, length_law.read history x.sigs read)

-- a run of words
pub run_places : (w : RunWords) (before : Named) (history : List ℕ) (x : Inputs) (entries : List Entry) (status : ℕ) → IsLawful x w.settings entries → IsUnder before w.history history → history_of history ≡ Ok x.sigs
    → (left : Inputs → Left) (report : Report) → (course_with left before w).ending ≡ Ok report → (status ≡ outcome_status x entries) ⊎ (status ≡ 8) → ByPlaces x (loaded_of x) w.settings entries status
run_places w before history x entries status l is_under read left report ends by =
    let is_small = small w before history x.sigs is_under read left report ends in
    by_places x (loaded_of x) w.settings entries l status (few_loaded x history l.loaded read is_small) (short_loaded x history l.loaded read is_small) by

-- the first attempt begins from what was loaded
first_sigs : (x : Inputs) (s : Settings) → sigs_at x s 0 ≡ loaded_of x
unfolding sigs_after
first_sigs x s = refl

-- the last of some attempts
module _ (w : RunWords) (before : Named) (history : List ℕ) (x : Inputs) (k status : ℕ) (is_under : IsUnder before w.history history) (read : history_of history ≡ Ok x.sigs) (left : Inputs → Left) (report : Report)
    (ends : (course_with left before w).ending ≡ Ok report) where
  pub last_places : (last : ℕ) → AreLawful x w.settings k last → (status ≡ outcome_status x (entries_at x w.settings last)) ⊎ (status ≡ 8) → ByPlaces x (sigs_at x w.settings last) w.settings (entries_at x w.settings last) status
  last_places zero l by =
      let is_small = small w before history x.sigs is_under read left report ends in
      let first = first_sigs x w.settings in
      let loaded_is = l.lawful.loaded in
      let few : length (sigs_at x w.settings 0) ≤ 4080 = subst (λ (ss : List Sig). length ss ≤ 4080) (sym first) (few_loaded x history loaded_is read is_small) in
      let low : length (history_text (named (names_of x) (sigs_at x w.settings 0))) ≤ 6311856 =
      subst (λ (ss : List Sig). length (history_text (named (names_of x) ss)) ≤ 6311856) (sym first) (short_loaded x history loaded_is read is_small) in
      by_places x (sigs_at x w.settings 0) w.settings (entries_at x w.settings 0) l.lawful status few low by
  last_places (suc i) l by =
      let loadable = (l.attempts.followed i (omega arith)).loadable in
      let few = loadable.few in
      let bytes = loadable.short in
      by_places x (sigs_at x w.settings (suc i)) w.settings (entries_at x w.settings (suc i)) l.lawful status (omega (arith, few)) (omega (arith, bytes)) by
