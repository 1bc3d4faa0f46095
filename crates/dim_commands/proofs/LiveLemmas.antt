-- What a live run builds and stores, by the names, the program and the signatures that it ran.
use Rattle.std.proofs.Common.{◌≡◌, ℕ, List, [], ◌∷◌, ◌++◌, length, Option, Result, Ok, Err, OnOk, Bool, true, false, cond, ltb, ap, sym, ◌∙◌, subst, inr}
use Rattle.dim_base.specs.Files.{Named}
use Rattle.dim_signature.specs.Sig.{Sig}
use Rattle.dim_asm.specs.Code.{Code}
use Rattle.dim_history_file.specs.Judging.{history_of}
use Rattle.dim_history_file.specs.Spelling.{history_text}
use Rattle.dim_history_file.specs.Value.{named, NamedSig}
use Rattle.dim_rag.specs.declared.entry.Entry.{Entry}
use Rattle.dim_rag.specs.History.{past}
use Rattle.dim_gate.specs.Immune.{IsImmune}
use Rattle.dim_gate.specs.Known.{known_sigs}
use Rattle.dim_run.specs.declared.finish.Last.{Last}
use Rattle.dim_run.specs.declared.playing.Outcome.{Outcome}
use Rattle.dim_schedule.specs.declared.settings.Settings.{Settings}
use Rattle.dim_run.specs.Crew.{rules_of}
use Rattle.dim_run.specs.Complete.{IsComplete}
use Rattle.dim_execution.specs.Executes.{Executes}
use Rattle.dim_execution.specs.Start.{gate_of}
use Rattle.dim_run.specs.Gates.{risen}
use Rattle.dim_run.specs.Grown.{grown}
use Rattle.dim_run.specs.Living.{by_threads}
use Rattle.dim_run.specs.Run.{outcome_of, ends_after}
use Rattle.dim_trace.specs.Text.{trace_text}
use Rattle.dim_inquiry.specs.declared.report.Report.{Report}
use Rattle.dim_inquiry.specs.declared.stop.Place.TheVariants.{Program, History}
use Rattle.dim_inquiry.specs.declared.stop.Stop.{Stop}
use Rattle.dim_inquiry.specs.declared.stop.Stop.TheVariants as stops
use Rattle.dim_words.specs.Words.{RunWords, is_dash}
use Rattle.dim_inquiry.specs.Inputs.{Inputs, empty_history, names_of, program_of, loaded_of}
use Rattle.dim_commands.specs.Output.{grown_by, left_by}
use Rattle.dim_inquiry.specs.Course.{Call, Course, Stops, Runs, WhereTold, go_on, ends, fetches, gives}
use Rattle.dim_inquiry.specs.Taking.{fetches_history, fetches_inputs, assembles, reads, loads, takes, IsTaken}
use Rattle.dim_commands.specs.Report.{ran}
use Rattle.dim_commands.specs.Lawful.{IsLawful, ReadsBack}
use Rattle.dim_commands.specs.Live.{IsLived, IsMade, LiveStored, IsEarly, Lives}
use Rattle.dim_commands.proofs.GrownLemmas.{grown_length}
use Rattle.dim_inquiry.proofs.Exports.{there, under}
use Rattle.dim_commands.proofs.RunLemmas.{IsGot, at_stores, ends_so}
use Rattle.dim_commands.proofs.StoreLemmas.{both_stored}
use Rattle.dim_inquiry.specs.declared.stop.Refusal.{Refusal}
use Rattle.dim_inquiry.specs.declared.stop.Refusal.TheVariants.{Full}
use Rattle.dim_commands.specs.Run.{stores_left}
use Rattle.std.specs.Str.{bytes_eq}
use Rattle.std.specs.Prelude.{◌||◌}

-- what a run with these names, this program and these signatures is, wherever they are those of the inputs
pub record IsRun (x : Inputs) (s : Settings) (names : List (List ℕ)) (p : Code) (loaded known : List Sig) (entries : List Entry) (outcome : Outcome) (ends : List Last) (count count' : ℕ) : Type 0 where
  pub known_are : known ≡ grown loaded s.depth entries
  pub read : named (names_of x) (loaded_of x) ≡ x.sigs
  pub executes : Executes (gate_of p loaded s.depth) p s.fuel entries
  pub immune : IsImmune loaded s.depth (past entries)
  pub complete : IsComplete (rules_of p loaded s) (past entries)
  pub again : history_of (history_text (named names known)) ≡ Ok (named names known)
  pub trace_again : ReadsBack p names s entries
  pub outcome_is : outcome ≡ outcome_of p entries
  pub ends_are : ends ≡ ends_after p s entries
  pub counted : count' ≡ risen (by_threads (past entries)) count

module _ (x : Inputs) (s : Settings) (known : List Sig) (entries : List Entry) (outcome : Outcome) (ends : List Last) (count count' : ℕ) (new_history trace : List ℕ) (report : Report) where
  abbrev Builds : List (List ℕ) → Code → List Sig → Type 0
  Builds names p loaded =
      IsRun x s names p loaded known entries outcome ends count count' → new_history ≡ history_text (named names known) → trace ≡ trace_text p names s.fuel s.depth entries
      → report ≡ ran p outcome entries (length known) ends → IsLived x s new_history trace report count count'

  of_inputs : Builds (names_of x) (program_of x) (loaded_of x)
  of_inputs is h t r =
      let same : named (names_of x) known ≡ grown_by x s entries = ap (named (names_of x)) is.known_are in
      record {
        entries = entries;
        lawful = record {
          executes = is.executes;
          immune = is.immune;
          complete = is.complete;
          loaded = is.read;
          reads_back = subst (λ sigs. history_of (history_text sigs) ≡ Ok sigs) same is.again;
          trace_reads_back = is.trace_again;
        };
        new_history_is = h ∙ ap history_text same;
        trace_is = t;
        report_is =
            r ∙ ap (λ o. ran (program_of x) o entries (length known) ends) is.outcome_is
            ∙ ap (λ k. ran (program_of x) (outcome_of (program_of x) entries) entries (length k) ends) is.known_are
            ∙ ap (λ n. ran (program_of x) (outcome_of (program_of x) entries) entries n ends) (grown_length (loaded_of x) s.depth entries)
            ∙ ap (ran (program_of x) (outcome_of (program_of x) entries) entries (length (known_sigs (loaded_of x) s.depth (past entries)))) is.ends_are;
        counted = is.counted;
      }

  pub lived_by : (names : List (List ℕ)) (p : Code) (loaded : List Sig) → names ≡ names_of x → p ≡ program_of x → loaded ≡ loaded_of x → Builds names p loaded
  lived_by names p loaded of_names of_program of_loaded =
      subst (λ n. Builds n p loaded) (sym of_names)
      (subst (λ q. Builds (names_of x) q loaded) (sym of_program) (subst (Builds (names_of x) (program_of x)) (sym of_loaded) of_inputs))

-- these are the entries of the run that was made, by what was taken
abbrev pub made_of : (w : RunWords) (before : Named) (entries : List Entry) (x : Inputs) → IsTaken before w.program w.history x → IsLawful x w.settings entries → IsMade w before entries
made_of w before entries x t lawful = record {
  program = t.program;
  history = t.history;
  inputs = x;
  fetched = there (before w.program) Program 4194304 t.program t.fetched;
  fetched_history = under before w.history t.history t.fetched_history;
  assembled = t.assembled;
  read = t.read;
  lawful = lawful;
}

-- calls of which a fault comes before a store
abbrev AreEarly : List Call → Type 0
AreEarly [] = Unit {0}
AreEarly (call ∷ calls) = IsEarly (Err (stops.Fault call.place)) × AreEarly calls

early_behind : (xs ys : List Call) → AreEarly xs → AreEarly ys → AreEarly (xs ++ ys)
early_behind [] ys a b = b
early_behind (x ∷ xs) ys a b = (a.0, early_behind xs ys a.1 b)

early_then : {A B : Type 0} (calls : List Call) (ending : Result A Refusal) (f : A → Course B) → AreEarly calls → ((x : A) → AreEarly (f x).calls) → AreEarly (go_on calls ending f).calls
early_then calls (Ok x) f a b = early_behind calls (f x).calls a (b x)
early_then calls (Err r) f a b = a

history_by : (b : Bool) (files : Named) (name : List ℕ) → AreEarly (cond b (gives empty_history) (fetches files History name 8388608)).calls
history_by true files name = tt
history_by false files name = (tt, tt)

abbrev loads_if : Bool → Refusal → Course (Unit {0})
loads_if b r = cond b (ends (Err r)) (gives tt)

loads_by : (b : Bool) (r : Refusal) → AreEarly (loads_if b r).calls
loads_by true r = tt
loads_by false r = tt

loads_early : (sigs : List NamedSig) (bytes : List ℕ) → AreEarly (loads sigs bytes).calls
loads_early sigs bytes = loads_by (ltb 4080 (length sigs) || ltb 6291456 (length bytes)) (Full (length sigs) (length bytes))

takes_early : (program history : List ℕ) → AreEarly (takes program history).calls
unfolding takes
takes_early program history =
    early_then [] (assembles program).ending _ tt
    (λ p. early_then [] (reads history).ending _ tt (λ sigs. early_then (loads sigs history).calls (loads sigs history).ending _ (loads_early sigs history) (λ u. tt)))

calls_early : (files : Named) (program_name history_name : List ℕ) → AreEarly (fetches_inputs files program_name history_name).calls
unfolding fetches_inputs
calls_early files program_name history_name =
    early_then (fetches files Program program_name 4194304).calls (fetches files Program program_name 4194304).ending _ (tt, tt)
    (λ program. early_then (fetches_history files history_name).calls (fetches_history files history_name).ending _ (history_by (is_dash history_name) files history_name)
    (λ history. takes_early program history))

-- the call that failed is one of them
failed_early : (made left : List Call) (failed : Call) → AreEarly (made ++ failed ∷ left) → IsEarly (Err (stops.Fault failed.place))
failed_early [] left failed a = a.0
failed_early (x ∷ made) left failed a = failed_early made left failed a.1

stop_early : (c : Course Inputs) (files : Named) (stop : Stop) (after : Option Named) → AreEarly c.calls → Stops c files stop after → IsEarly (Err stop)
stop_early c files (stops.Refused r) after a h = tt
stop_early c files (stops.Fault place) after a h = subst (λ q. IsEarly (Err (stops.Fault q))) h.here (failed_early h.made h.left h.failed (subst AreEarly h.order a))
stop_early c files stops.OutOfMemory after a h = tt

pub inputs_early : (files : Named) (program_name history_name : List ℕ) (stop : Stop) (after : Option Named) → Stops (fetches_inputs files program_name history_name) files stop after → IsEarly (Err stop)
inputs_early files program_name history_name stop after h = stop_early (fetches_inputs files program_name history_name) files stop after (calls_early files program_name history_name) h

-- what `live` has stored, where it reports
stored_so : (w : RunWords) (x : Inputs) (entries : List Entry) (r : Result Report Stop) (told middle after : Option Named) → bytes_eq w.trace w.new_history ≡ false → IsLawful x w.settings entries
    → WhereTold told (λ before. IsTaken before w.program w.history x) → WhereTold told (λ before. IsGot before w x middle)
    → WhereTold told (λ before. Runs (λ (q : Report). q) (stores_left w.new_history w.trace (left_by entries w.settings x)) before r after)
    → OnOk r (WhereTold told (λ before. LiveStored entries w before after))
stored_so w x entries (Ok report) told middle after apart lawful taken got stores = λ before is. record {
  made = made_of w before entries x (taken before is) lawful;
  apart = apart;
  files = both_stored before w.new_history w.trace (left_by entries w.settings x) report after (stores before is);
  ending = ends_so (left_by entries w.settings) before w x middle (got before is);
}
stored_so w x entries (Err stop) told middle after apart lawful taken got stores = tt

where_ok : (P : Type 0) (r : Result Report Stop) → P → OnOk r P
where_ok P (Ok report) p = p
where_ok P (Err stop) p = tt

-- once a run was made, `live` goes the way of its course
pub lives_so : (w : RunWords) (x : Inputs) (entries : List Entry) (r : Result Report Stop) (told middle after : Option Named) (count count' : ℕ) → bytes_eq w.trace w.new_history ≡ false → IsLawful x w.settings entries
    → count' ≡ risen (by_threads (past entries)) count → WhereTold told (λ before. IsTaken before w.program w.history x) → WhereTold told (λ before. IsGot before w x middle)
    → WhereTold told (λ before. Runs (λ (q : Report). q) (stores_left w.new_history w.trace (left_by entries w.settings x)) before r after)
    → Lives w r told after count count'
lives_so w x entries r told middle after count count' apart lawful counted taken got stores = record {
  entries = entries;
  runs = λ before is. at_stores (left_by entries w.settings) before w x middle (got before is) r after (stores before is);
  made = λ before is. inr (made_of w before entries x (taken before is) lawful);
  stored = stored_so w x entries r told middle after apart lawful taken got stores;
  counted = where_ok (count' ≡ risen (by_threads (past entries)) count) r counted;
}
