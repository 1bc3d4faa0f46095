-- What is built of attempts, by the names, the program and the signatures that they began with.
use Rattle.std.proofs.Common.{◌≡◌, ℕ, suc, ◌-◌, ◌≤◌, List, length, map, Ok, refl, sym, ap, ◌∙◌, subst, arith}
use Rattle.dim_asm.specs.Code.{Code}
use Rattle.std.specs.Prelude.{All, Some, slice_get}
use Rattle.std.proofs.lemmas.Option.{get_or_from_slice_get, slice_get_within}
use Rattle.dim_signature.specs.Sig.{Sig, IsSig}
use Rattle.dim_rag.specs.declared.entry.Entry.{Entry}
use Rattle.dim_rag.specs.History.{past}
use Rattle.dim_gate.specs.Immune.{IsImmune}
use Rattle.dim_history_file.specs.Judging.{history_of}
use Rattle.dim_history_file.specs.Seen.{value_of}
use Rattle.dim_history_file.specs.Spelling.{history_text}
use Rattle.dim_history_file.specs.Value.{NamedSig, named}
use Rattle.dim_events.specs.Kinds.{totals_of}
use Rattle.dim_gate.specs.Kinds.{kind_of}
use Rattle.dim_execution.specs.Executes.{Executes}
use Rattle.dim_execution.specs.Start.{gate_of}
use Rattle.dim_schedule.specs.declared.settings.Settings.{Settings}
use Rattle.dim_run.specs.Complete.{IsComplete}
use Rattle.dim_run.specs.Crew.{rules_of}
use Rattle.dim_run.specs.Grown.{grown}
use Rattle.dim_run.specs.Run.{ends_after, outcome_of}
use Rattle.dim_trace.specs.Text.{trace_text}
use Rattle.dim_tune.specs.declared.attempt.KeptImmunized.{KeptImmunized}
use Rattle.dim_tune.specs.Attempts.{attempts_of, sigs_after, AreAttempts}
use Rattle.dim_tune.specs.Laws.{AllGrownLaw}
use Rattle.dim_tune.specs.Runs.{IsKeptRun}
use Rattle.dim_inquiry.specs.declared.report.Report.{Report}
use Rattle.dim_commands.specs.Immunize.{last_of, sigs_at, entries_at, history_at, behind_attempts, attempts_report, report_at, left_at, attempts_left, AreLawful}
use Rattle.dim_commands.specs.Lawful.{IsTraceable, ReadsBack}
use Rattle.dim_inquiry.specs.Inputs.{Inputs, names_of, program_of, loaded_of}
use Rattle.dim_commands.specs.Output.{Left, trace_by}
use Rattle.dim_commands.specs.Report.{ran}
use Rattle.dim_commands.proofs.LastLemmas.{last_is}
use Rattle.dim_commands.proofs.StoreLemmas.{left_with}

-- what attempts with these names, this program and these signatures are, wherever they are those of
-- the inputs
pub record AreTried (x : Inputs) (s : Settings) (k : ℕ) (made : KeptImmunized) (names : List (List ℕ)) (p : Code) (loaded : List Sig) : Type 0 where
  pub some : 1 ≤ k
  pub in_range : All IsSig loaded
  pub attempts : AreAttempts names p s loaded k (length made.lines.items)
  pub lines_are : made.lines.items ≡ attempts_of p s loaded (length made.lines.items)
  pub run_is : (i : ℕ) → suc i ≡ length made.lines.items → IsKeptRun p (sigs_after p s loaded i) s made.run
  pub names_are : made.history.names ≡ names
  pub sigs_are : made.history.catalogue.sigs ≡ sigs_after p s loaded (length made.lines.items)
  pub read : named (names_of x) (loaded_of x) ≡ x.sigs
  pub again : history_of (history_text (value_of made.history)) ≡ Ok (value_of made.history)
  pub trace_again : (l : List Sig) → IsTraceable p l s made.run.tables.entries → ReadsBack p made.history.names s made.run.tables.entries

-- what is written of them
pub record AreWritten (s : Settings) (made : KeptImmunized) (p : Code) (left : Left) : Type 0 where
  pub history_is : left.new_history ≡ history_text (value_of made.history)
  pub trace_is : left.trace ≡ trace_text p made.history.names s.fuel s.depth made.run.tables.entries
  pub report_is : left.report ≡ behind_attempts made.lines.items (ran p made.run.outcome made.run.tables.entries (length made.run.catalogue.sigs) made.run.ends.items)

in_range_at : (sigs : List Sig) (i : ℕ) (sig : Sig) → All IsSig sigs → slice_get sigs i ≡ Some sig → IsSig sig
in_range_at sigs i sig all at = subst IsSig (get_or_from_slice_get sigs i sig sig at) (all i sig (slice_get_within sigs i sig at))

-- the signatures after one more
next_is : (x : Inputs) (s : Settings) (i : ℕ) → sigs_at x s (suc i) ≡ grown (sigs_at x s i) s.depth (entries_at x s i)
unfolding sigs_after
next_is x s i = refl

left_parts : (s : Settings) (i : ℕ) (x : Inputs) → left_at s i x ≡ left_with (history_text (history_at x s (suc i))) (trace_by x s (entries_at x s i)) (attempts_report x s i)
unfolding left_at
left_parts s i x = refl

same_left : (l : Left) (new_history trace : List ℕ) (report : Report) → l.new_history ≡ new_history → l.trace ≡ trace → l.report ≡ report → l ≡ left_with new_history trace report
same_left l new_history trace report h t r =
    ap (λ a. left_with a l.trace l.report) h ∙ ap (λ a. left_with new_history a l.report) t ∙ ap (left_with new_history trace) r

module _ (x : Inputs) (s : Settings) (k : ℕ) (made : KeptImmunized) where
  abbrev Tried : List (List ℕ) → Code → List Sig → Type 0
  Tried names p loaded = AreTried x s k made names p loaded

  -- with the names, the program and the signatures of the inputs
  module _ (is : Tried (names_of x) (program_of x) (loaded_of x)) where
    abbrev p : Code
    p = program_of x

    abbrev last : ℕ
    last = last_of x s k

    abbrev entries : List Entry
    entries = entries_at x s last

    abbrev known : List Sig
    known = sigs_at x s (suc last)

    count : length made.lines.items ≡ suc last
    count = last_is x s k (length made.lines.items) is.some is.attempts

    run : IsKeptRun p (sigs_at x s last) s made.run
    run = is.run_is last (sym count)

    known_are : made.run.catalogue.sigs ≡ known
    known_are = run.run_is.known_are ∙ ap (grown (sigs_at x s last) s.depth) run.entries_are ∙ sym (next_is x s last)

    traceable : IsTraceable p (sigs_at x s last) s made.run.tables.entries
    traceable = record { loaded = run.loaded; few_loaded = run.few_loaded; executes = run.run_is.executes; few = run.run_is.few }

    value : value_of made.history ≡ history_at x s (suc last)
    value = ap (λ n. named n made.history.catalogue.sigs) is.names_are ∙ ap (named (names_of x)) (is.sigs_are ∙ ap (sigs_at x s) count)

    last_report : ran p made.run.outcome made.run.tables.entries (length made.run.catalogue.sigs) made.run.ends.items ≡ report_at x s last
    last_report =
        ap (λ o. ran p o made.run.tables.entries (length made.run.catalogue.sigs) made.run.ends.items) run.run_is.outcome_is
        ∙ ap (λ ends. ran p (outcome_of p made.run.tables.entries) made.run.tables.entries (length made.run.catalogue.sigs) ends) run.run_is.ends_are
        ∙ ap (λ (sigs : List Sig). ran p (outcome_of p made.run.tables.entries) made.run.tables.entries (length sigs) (ends_after p s made.run.tables.entries)) known_are
        ∙ ap (λ es. ran p (outcome_of p es) es (length known) (ends_after p s es)) run.entries_are

    report : behind_attempts made.lines.items (ran p made.run.outcome made.run.tables.entries (length made.run.catalogue.sigs) made.run.ends.items) ≡ attempts_report x s last
    report =
        ap (behind_attempts made.lines.items) last_report
        ∙ ap (λ lines. behind_attempts lines (report_at x s last)) (is.lines_are ∙ ap (attempts_of p s (loaded_of x)) count)

    written : (l : Left) → AreWritten s made p l → l ≡ attempts_left s k x
    written l w =
        same_left l (history_text (history_at x s (suc last))) (trace_by x s entries) (attempts_report x s last)
        (w.history_is ∙ ap history_text value)
        (w.trace_is ∙ ap (λ n. trace_text p n s.fuel s.depth made.run.tables.entries) is.names_are ∙ ap (trace_text p (names_of x) s.fuel s.depth) run.entries_are)
        (w.report_is ∙ report)
        ∙ sym (left_parts s last x)

    lawful : AllGrownLaw → AreLawful x s k last
    lawful law = record {
      attempts = subst (AreAttempts (names_of x) p s (loaded_of x) k) count is.attempts;
      lawful = record {
        executes = subst (λ es. Executes (gate_of p (sigs_at x s last) s.depth) p s.fuel es) run.entries_are run.run_is.executes;
        immune = subst (λ es. IsImmune (sigs_at x s last) s.depth (past es)) run.entries_are run.immune;
        complete = subst (λ es. IsComplete (rules_of p (sigs_at x s last) s) (past es)) run.entries_are run.complete;
        loaded = is.read;
        reads_back =
            subst (λ (sigs : List NamedSig). history_of (history_text sigs) ≡ Ok sigs) (value ∙ ap (named (names_of x)) (next_is x s last)) is.again;
        trace_reads_back =
            subst (λ es. ReadsBack p (names_of x) s es) run.entries_are
            (subst (λ n. ReadsBack p n s made.run.tables.entries) is.names_are (is.trace_again (sigs_at x s last) traceable));
      };
      grown = λ i sig at. law p s (loaded_of x) (suc last) i sig at (in_range_at (loaded_of x) i sig is.in_range at).yields;
    }

  -- wherever they are those
  moved : (P : List (List ℕ) → Code → List Sig → Type 0) → (names : List (List ℕ)) (p : Code) (loaded : List Sig) → names ≡ names_of x → p ≡ program_of x → loaded ≡ loaded_of x
      → P names p loaded → P (names_of x) (program_of x) (loaded_of x)
  moved P names p loaded of_names of_program of_loaded h =
      subst (λ l. P (names_of x) (program_of x) l) of_loaded (subst (λ q. P (names_of x) q loaded) of_program (subst (λ n. P n p loaded) of_names h))

  pub tried_left : (names : List (List ℕ)) (p : Code) (loaded : List Sig) → names ≡ names_of x → p ≡ program_of x → loaded ≡ loaded_of x → Tried names p loaded
      → (l : Left) → AreWritten s made p l → l ≡ attempts_left s k x
  tried_left names p loaded of_names of_program of_loaded is l w =
      written (moved Tried names p loaded of_names of_program of_loaded is) l (subst (λ q. AreWritten s made q l) of_program w)

  pub tried_lawful : AllGrownLaw → (names : List (List ℕ)) (p : Code) (loaded : List Sig) → names ≡ names_of x → p ≡ program_of x → loaded ≡ loaded_of x → Tried names p loaded
      → AreLawful x s k (last_of x s k)
  tried_lawful law names p loaded of_names of_program of_loaded is = lawful (moved Tried names p loaded of_names of_program of_loaded is) law

-- the totals of the last run
pub last_totals : (p : Code) (loaded : List Sig) (s : Settings) (made : KeptImmunized) → 1 ≤ length made.lines.items
    → ((i : ℕ) → suc i ≡ length made.lines.items → IsKeptRun p (sigs_after p s loaded i) s made.run) → made.run.totals ≡ totals_of (map kind_of made.run.tables.entries)
last_totals p loaded s made some run = (run (length made.lines.items - 1) (omega (arith, some))).run_is.totals_are
