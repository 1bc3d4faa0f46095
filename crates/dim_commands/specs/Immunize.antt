-- `immunize`.
use Rattle.std.specs.Prelude.{◌≡◌, ◌-◌, ◌&&◌, ℕ, zero, suc, Bool, true, false, nat_le, if◌then◌else◌, List, ◌++◌, length, codes, slice_get, Option, Some, Ok}
use Rattle.std.specs.Fmt.{decimal}
use Rattle.std.specs.Str.{bytes_eq}
use Rattle.dim_base.specs.Files.{Named, with_file}
use Rattle.dim_asm.specs.Assembling.{program_of as assembled_of}
use Rattle.dim_history_file.specs.Judging.{history_of}
use Rattle.dim_history_file.specs.Spelling.{history_text}
use Rattle.dim_history_file.specs.Value.{NamedSig, named}
use Rattle.dim_rag.specs.declared.entry.Entry.{Entry}
use Rattle.dim_signature.specs.Sig.{Sig, counted}
use Rattle.dim_run.specs.declared.playing.Outcome.{Outcome}
use Rattle.dim_run.specs.declared.playing.Outcome.TheVariants as outcomes
use Rattle.dim_schedule.specs.declared.settings.Settings.{Settings}
use Rattle.dim_run.specs.Run.{ends_after, outcome_of, played}
use Rattle.dim_tune.specs.declared.attempt.Attempt.{Attempt}
use Rattle.dim_tune.specs.Attempts.{attempt_after, attempts_of, sigs_after, AreAttempts}
use Rattle.dim_tune.specs.Laws.{all_yields_of}
use Rattle.dim_words.specs.Words.{ImmunizeWords}
use Rattle.dim_inquiry.specs.declared.report.Report.{Report}
use Rattle.dim_inquiry.specs.declared.stop.Place.TheVariants.{Program}
use Rattle.dim_inquiry.specs.Course.{file_at, Course}
use Rattle.dim_commands.specs.Lawful.{IsLawfulFrom}
use Rattle.dim_inquiry.specs.Inputs.{Inputs, names_of, program_of, loaded_of}
use Rattle.dim_commands.specs.Output.{Left, trace_by}
use Rattle.dim_inquiry.specs.Report.{by_number}
use Rattle.dim_commands.specs.Report.{outcome_word, ran}
use Rattle.dim_commands.specs.Run.{course_with}
use Rattle.dim_inquiry.specs.Taking.{fetches_history}

-- ---- the attempts

-- the signatures after so many attempts
abbrev pub sigs_at : Inputs → Settings → ℕ → List Sig
sigs_at x s i = sigs_after (program_of x) s (loaded_of x) i

-- the entries of the attempt that comes after i others, oldest first
abbrev pub entries_at : Inputs → Settings → ℕ → List Entry
entries_at x s i = played (program_of x) (sigs_at x s i) s

-- the history after so many attempts, with functions read as names
abbrev pub history_at : Inputs → Settings → ℕ → List NamedSig
history_at x s i = named (names_of x) (sigs_at x s i)

abbrev pub is_deadlocked : Outcome → Bool
is_deadlocked outcomes.Finished = false
is_deadlocked outcomes.Deadlocked = true
is_deadlocked outcomes.Stalled = false

-- an attempt ended with a cycle, and learnt
abbrev pub has_learnt : Attempt → Bool
has_learnt a = is_deadlocked a.outcome && nat_le 1 a.learnt

-- a run can load these signatures
abbrev pub are_loadable : List (List ℕ) → List Sig → Bool
are_loadable names sigs = nat_le (length sigs) 4080 && nat_le (length (history_text (named names sigs))) 6291456

-- there is reason for one more attempt after the one that comes after i others
abbrev pub goes_on : Inputs → Settings → ℕ → Bool
goes_on x s i = has_learnt (attempt_after (program_of x) s (loaded_of x) i) && are_loadable (names_of x) (sigs_at x s (suc i))

-- of attempts that each go on or not, the number before the last: of i and at most k more
unfoldable pub last_from : (ℕ → Bool) → ℕ → ℕ → ℕ
last_from goes i zero = i
last_from goes i (suc k) = if goes i then last_from goes (suc i) k else i

-- how many attempts come before the last, where at most k are made
unfoldable pub last_of : Inputs → Settings → ℕ → ℕ
last_of x s k = last_from (goes_on x s) 0 (k - 1)

-- ---- the report

-- the line of the attempt with this number: how it ended, and how often it learnt
unfoldable pub attempt_line : ℕ → Attempt → List ℕ
attempt_line i a = codes "attempt "
    ++ (decimal i ++ (codes " " ++ (outcome_word a.outcome ++ (codes " learnt " ++ (decimal a.learnt ++ codes "\n")))))

-- those of attempts in order, from 1 on
abbrev pub attempt_lines : List Attempt → List ℕ
attempt_lines attempts = by_number attempt_line 1 attempts

-- the report of the last run, behind the lines of all attempts
abbrev pub behind_attempts : List Attempt → Report → Report
behind_attempts attempts report = record { ending = report.ending; text = attempt_lines attempts ++ report.text }

-- the report of the run that comes after i others
abbrev pub report_at : Inputs → Settings → ℕ → Report
report_at x s i = ran (program_of x) (outcome_of (program_of x) (entries_at x s i)) (entries_at x s i) (length (sigs_at x s (suc i))) (ends_after (program_of x) s (entries_at x s i))

-- that of the attempts of which the last comes after i others
abbrev pub attempts_report : Inputs → Settings → ℕ → Report
attempts_report x s i = behind_attempts (attempts_of (program_of x) s (loaded_of x) (suc i)) (report_at x s i)

-- ---- what is left

-- the history after all attempts, the trace of the last one, and the report, where the last one
-- comes after i others
unfoldable pub left_at : Settings → ℕ → Inputs → Left
left_at s i x = record { new_history = history_text (history_at x s (suc i)); trace = trace_by x s (entries_at x s i); report = attempts_report x s i }

-- where at most k attempts are made
abbrev pub attempts_left : Settings → ℕ → Inputs → Left
attempts_left s k x = left_at s (last_of x s k) x

-- `immunize`
abbrev pub immunize_course : Named → ImmunizeWords → Course Report
immunize_course files w = course_with (attempts_left w.run.settings w.attempts) files w.run

-- ---- what holds of it

-- each signature that was read is there after n attempts, by its number, with the Yields of all of
-- them counted
abbrev pub AreGrown : Inputs → Settings → ℕ → Type 0
AreGrown x s n = (i : ℕ) (sig : Sig) → slice_get (loaded_of x) i ≡ Some sig
    → slice_get (sigs_at x s n) i ≡ Some (counted (all_yields_of (program_of x) s (loaded_of x) i n) sig)

-- Of at most k attempts so many come before the last one. Its entries are lawful from the signatures
-- after those before it, and the signatures that were read have grown by all attempts.
pub record AreLawful (x : Inputs) (s : Settings) (k last : ℕ) : Type 0 where
  pub attempts : AreAttempts (names_of x) (program_of x) s (loaded_of x) k (suc last)
  pub lawful : IsLawfulFrom x (sigs_at x s last) s (entries_at x s last)
  pub grown : AreGrown x s (suc last)

-- both files were stored, and the command ends with its report
pub record Immunized (w : ImmunizeWords) (before : Named) (after : Option Named) : Type 0 where
  pub program : List ℕ
  pub history : List ℕ
  pub inputs : Inputs
  pub last : ℕ
  pub fetched : file_at (before w.run.program) Program 4194304 ≡ Ok program
  pub fetched_history : (fetches_history before w.run.history).ending ≡ Ok history
  pub assembled : assembled_of program ≡ Ok inputs.program
  pub read : history_of history ≡ Ok inputs.sigs
  pub lawful : AreLawful inputs w.run.settings w.attempts last
  pub apart : bytes_eq w.run.trace w.run.new_history ≡ false
  pub files : after
      ≡ Some (with_file (with_file before w.run.new_history (Some (left_at w.run.settings last inputs).new_history)) w.run.trace (Some (left_at w.run.settings last inputs).trace))
  pub ending : (immunize_course before w).ending ≡ Ok ((left_at w.run.settings last inputs).report)
