-- What a run builds, by the names, the program and the signatures that it played.
use Rattle.std.proofs.Common.{◌≡◌, ℕ, List, length, Ok, ap, ◌∙◌, subst}
use Rattle.dim_signature.specs.Sig.{Sig}
use Rattle.dim_asm.specs.Code.{Code}
use Rattle.dim_history_file.specs.Judging.{history_of}
use Rattle.dim_history_file.specs.Spelling.{history_text}
use Rattle.dim_history_file.specs.Value.{named}
use Rattle.dim_rag.specs.declared.entry.Entry.{Entry}
use Rattle.dim_rag.specs.History.{past}
use Rattle.dim_gate.specs.Immune.{IsImmune}
use Rattle.dim_gate.specs.Known.{known_sigs}
use Rattle.dim_run.specs.declared.finish.Last.{Last}
use Rattle.dim_run.specs.declared.playing.Outcome.{Outcome}
use Rattle.dim_schedule.specs.declared.settings.Settings.{Settings}
use Rattle.dim_run.specs.Crew.{rules_of}
use Rattle.dim_run.specs.Complete.{IsComplete}
use Rattle.dim_run.specs.Grown.{grown}
use Rattle.dim_execution.specs.Executes.{Executes}
use Rattle.dim_execution.specs.Start.{gate_of}
use Rattle.dim_run.specs.Run.{played, outcome_of, ends_after}
use Rattle.dim_trace.specs.Text.{trace_text}
use Rattle.dim_inquiry.specs.Inputs.{Inputs, names_of, program_of, loaded_of}
use Rattle.dim_commands.specs.Output.{entries_of, grown_by, new_history, trace, run_report}
use Rattle.dim_commands.specs.Report.{ran}
use Rattle.dim_commands.specs.Lawful.{IsLawful, ReadsBack}
use Rattle.dim_commands.proofs.GrownLemmas.{grown_length}

-- what was played: the names, the program, the signatures loaded and the entries, of these inputs
pub record IsPlayed (x : Inputs) (s : Settings) (names : List (List ℕ)) (p : Code) (loaded : List Sig) (entries : List Entry) : Type 0 where
  pub names_are : names ≡ names_of x
  pub program_is : p ≡ program_of x
  pub loaded_are : loaded ≡ loaded_of x
  pub entries_are : entries ≡ entries_of x s

pub is_played : (x : Inputs) (s : Settings) (names : List (List ℕ)) (p : Code) (loaded : List Sig) (entries : List Entry) → names ≡ names_of x → p ≡ program_of x → loaded ≡ loaded_of x
    → entries ≡ played p loaded s → IsPlayed x s names p loaded entries
unfolding entries_of
is_played x s names p loaded entries of_names of_program of_loaded of_entries = record {
  names_are = of_names;
  program_is = of_program;
  loaded_are = of_loaded;
  entries_are = of_entries ∙ ap (λ q. played q loaded s) of_program ∙ ap (λ l. played (program_of x) l s) of_loaded;
}

pub trace_is : (x : Inputs) (s : Settings) (names : List (List ℕ)) (p : Code) (loaded : List Sig) (entries : List Entry) → IsPlayed x s names p loaded entries
    → trace_text p names s.fuel s.depth entries ≡ trace x s
unfolding trace
trace_is x s names p loaded entries is =
    ap (λ q. trace_text q names s.fuel s.depth entries) is.program_is
    ∙ ap (λ n. trace_text (program_of x) n s.fuel s.depth entries) is.names_are
    ∙ ap (λ es. trace_text (program_of x) (names_of x) s.fuel s.depth es) is.entries_are

-- the signatures known at the end
grown_is : (x : Inputs) (s : Settings) (names : List (List ℕ)) (p : Code) (loaded known : List Sig) (entries : List Entry) → IsPlayed x s names p loaded entries → known ≡ grown loaded s.depth entries
    → known ≡ grown (loaded_of x) s.depth (entries_of x s)
grown_is x s names p loaded known entries is e =
    e ∙ ap (λ l. grown l s.depth entries) is.loaded_are ∙ ap (grown (loaded_of x) s.depth) is.entries_are

named_is : (x : Inputs) (s : Settings) (names : List (List ℕ)) (p : Code) (loaded known : List Sig) (entries : List Entry) → IsPlayed x s names p loaded entries → known ≡ grown loaded s.depth entries
    → named names known ≡ grown_by x s (entries_of x s)
named_is x s names p loaded known entries is e = ap (λ n. named n known) is.names_are ∙ ap (named (names_of x)) (grown_is x s names p loaded known entries is e)

pub history_is : (x : Inputs) (s : Settings) (names : List (List ℕ)) (p : Code) (loaded known : List Sig) (entries : List Entry) → IsPlayed x s names p loaded entries → known ≡ grown loaded s.depth entries
    → history_text (named names known) ≡ new_history x s
unfolding new_history
history_is x s names p loaded known entries is e = ap history_text (named_is x s names p loaded known entries is e)

pub report_is : (x : Inputs) (s : Settings) (names : List (List ℕ)) (p : Code) (loaded known : List Sig) (entries : List Entry) (outcome : Outcome) (ends : List Last) → IsPlayed x s names p loaded entries
    → known ≡ grown loaded s.depth entries → outcome ≡ outcome_of p entries → ends ≡ ends_after p s entries → ran p outcome entries (length known) ends ≡ run_report x s
unfolding run_report
report_is x s names p loaded known entries outcome ends is e o d =
    let q = program_of x in
    let es = entries_of x s in
    let outcome_is : outcome ≡ outcome_of q es = o ∙ ap (λ r. outcome_of r entries) is.program_is ∙ ap (outcome_of q) is.entries_are in
    let ends_are : ends ≡ ends_after q s es = d ∙ ap (λ r. ends_after r s entries) is.program_is ∙ ap (ends_after q s) is.entries_are in
    ap (λ r. ran r outcome entries (length known) ends) is.program_is
    ∙ ap (λ r. ran q r entries (length known) ends) outcome_is
    ∙ ap (λ r. ran q (outcome_of q es) r (length known) ends) is.entries_are
    ∙ ap (λ r. ran q (outcome_of q es) es (length r) ends) (grown_is x s names p loaded known entries is e)
    ∙ ap (λ n. ran q (outcome_of q es) es n ends) (grown_length (loaded_of x) s.depth es)
    ∙ ap (ran q (outcome_of q es) es (length (known_sigs (loaded_of x) s.depth (past es)))) ends_are

pub lawful_is : (x : Inputs) (s : Settings) (names : List (List ℕ)) (p : Code) (loaded known : List Sig) (entries : List Entry) → IsPlayed x s names p loaded entries
    → known ≡ grown loaded s.depth entries → named (names_of x) (loaded_of x) ≡ x.sigs → Executes (gate_of p loaded s.depth) p s.fuel entries → IsImmune loaded s.depth (past entries) → IsComplete (rules_of p loaded s) (past entries)
    → history_of (history_text (named names known)) ≡ Ok (named names known) → ReadsBack p names s entries → IsLawful x s (entries_of x s)
lawful_is x s names p loaded known entries is e read executes immune complete back trace_back =
    let same = named_is x s names p loaded known entries is e in
    record {
      executes =
          subst (λ es. Executes (gate_of (program_of x) (loaded_of x) s.depth) (program_of x) s.fuel es) is.entries_are
          (subst (λ l. Executes (gate_of (program_of x) l s.depth) (program_of x) s.fuel entries) is.loaded_are (subst (λ q. Executes (gate_of q loaded s.depth) q s.fuel entries) is.program_is executes));
      immune = subst (λ es. IsImmune (loaded_of x) s.depth (past es)) is.entries_are (subst (λ l. IsImmune l s.depth (past entries)) is.loaded_are immune);
      complete =
          subst (λ es. IsComplete (rules_of (program_of x) (loaded_of x) s) (past es)) is.entries_are
          (subst (λ l. IsComplete (rules_of (program_of x) l s) (past entries)) is.loaded_are (subst (λ q. IsComplete (rules_of q loaded s) (past entries)) is.program_is complete));
      loaded = read;
      reads_back = subst (λ sigs. history_of (history_text sigs) ≡ Ok sigs) same back;
      trace_reads_back =
          subst (λ es. ReadsBack (program_of x) (names_of x) s es) is.entries_are
          (subst (λ n. ReadsBack (program_of x) n s entries) is.names_are (subst (λ q. ReadsBack q names s entries) is.program_is trace_back));
    }
