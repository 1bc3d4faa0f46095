-- How far the judging of a trace came.
use Rattle.std.proofs.Common.{◌≡◌, ℕ, List, [], Option, Some, Result, Ok, Err, refl, sym, ap, subst}
use Rattle.dim_base.specs.Files.{Named}
use Rattle.dim_trace.specs.Value.{TraceValue}
use Rattle.dim_inquiry.specs.declared.judging.Texts.{Texts}
use Rattle.dim_inquiry.specs.declared.stop.Place.TheVariants.{Program, Trace}
use Rattle.dim_inquiry.specs.declared.stop.Stop.{Stop}
use Rattle.dim_inquiry.specs.declared.stop.Stop.TheVariants as stops
use Rattle.dim_words.specs.Words.{CheckWords}
use Rattle.dim_inquiry.specs.Inputs.{Inputs, names_of, program_of, loaded_of}
use Rattle.dim_inquiry.specs.Course.{Course, Stops, Runs, after_calls, fetches, gives, file_at, ◌>>=◌}
use Rattle.dim_inquiry.specs.Judging.{Given, fetches_texts, spells, takes_given, judges, judged_course}
use Rattle.dim_inquiry.specs.Taking.{fetches_history, takes}
use Rattle.dim_inquiry.proofs.CourseLemmas.{Stops-first, Runs-behind}

-- memory may run out before the first call of any course
pub at_making : {A : Type 0} (c : Course A) (files : Named) (after : Option Named) → after ≡ Some files → Stops c files stops.OutOfMemory after
at_making c files after e = record { made = []; left = c.calls; order = refl; files = e }

-- The texts.
abbrev pub texts : List ℕ → List ℕ → List ℕ → Texts
texts program history trace = record { program = program; history = history; trace = trace }

abbrev pub the_program : Named → CheckWords → Course (List ℕ)
the_program files w = fetches files Program w.program 4194304

abbrev pub the_trace : Named → CheckWords → Course (List ℕ)
the_trace files w = fetches files Trace w.trace 536870912

abbrev pub behind_history : Named → CheckWords → List ℕ → List ℕ → Course Texts
behind_history files w program history = the_trace files w >>= λ trace. gives (texts program history trace)

abbrev pub behind_program : Named → CheckWords → List ℕ → Course Texts
behind_program files w program = fetches_history files w.history >>= behind_history files w program

abbrev same : Texts → Texts
same t = t

pub at_program : (files : Named) (w : CheckWords) (stop : Stop) (after : Option Named) → Stops (the_program files w) files stop after → Stops (fetches_texts files w) files stop after
unfolding fetches_texts
at_program files w stop after h = Stops-first (the_program files w) (behind_program files w) files stop after h

pub at_history : (files : Named) (w : CheckWords) (program : List ℕ) (stop : Stop) (after : Option Named) → file_at (files w.program) Program 4194304 ≡ Ok program
    → Stops (fetches_history files w.history) files stop after → Stops (fetches_texts files w) files stop after
unfolding fetches_texts
at_history files w program stop after fetched h =
    Runs-behind (the_program files w) (behind_program files w) same files program (Err stop) after fetched (
    Stops-first (fetches_history files w.history) (behind_history files w program) files stop after h
    )

-- behind the program and the history
behind_both : (files : Named) (w : CheckWords) (program history : List ℕ) (r : Result Texts Stop) (after : Option Named) → file_at (files w.program) Program 4194304 ≡ Ok program
    → (fetches_history files w.history).ending ≡ Ok history → after_calls (fetches_history files w.history).calls files ≡ files
    → Runs same (behind_history files w program history) files r after → Runs same (fetches_texts files w) files r after
unfolding fetches_texts
behind_both files w program history r after fetched got kept h =
    Runs-behind (the_program files w) (behind_program files w) same files program r after fetched (
    Runs-behind (fetches_history files w.history) (behind_history files w program) same files history r after got
    (subst (λ q. Runs same (behind_history files w program history) q r after) (sym kept) h)
    )

pub at_trace : (files : Named) (w : CheckWords) (program history : List ℕ) (stop : Stop) (after : Option Named) → file_at (files w.program) Program 4194304 ≡ Ok program
    → (fetches_history files w.history).ending ≡ Ok history → after_calls (fetches_history files w.history).calls files ≡ files
    → Stops (the_trace files w) files stop after → Stops (fetches_texts files w) files stop after
at_trace files w program history stop after fetched got kept h =
    behind_both files w program history (Err stop) after fetched got kept (Stops-first (the_trace files w) (λ trace. gives (texts program history trace)) files stop after h)

pub at_texts : (files : Named) (w : CheckWords) (program history trace : List ℕ) (after : Option Named) → file_at (files w.program) Program 4194304 ≡ Ok program
    → (fetches_history files w.history).ending ≡ Ok history → after_calls (fetches_history files w.history).calls files ≡ files
    → file_at (files w.trace) Trace 536870912 ≡ Ok trace → after ≡ Some files → Runs (λ (t : Texts). t) (fetches_texts files w) files (Ok (texts program history trace)) after
at_texts files w program history trace after fetched got kept last e =
    behind_both files w program history (Ok (texts program history trace)) after fetched got kept (
    Runs-behind (the_trace files w) (λ t. gives (texts program history t)) same files trace (Ok (texts program history trace)) after last (refl, e)
    )

-- What is read of them.
abbrev pub given : Inputs → TraceValue → Given
given x t = record { program = program_of x; names = names_of x; loaded = loaded_of x; trace = t }

abbrev pub behind_inputs : List ℕ → Inputs → Course Given
behind_inputs trace x = spells (program_of x) (names_of x) trace >>= λ t. gives (given x t)

pub at_inputs : (t : Texts) (files : Named) (stop : Stop) (after : Option Named) → Stops (takes t.program t.history) files stop after → Stops (takes_given t) files stop after
unfolding takes_given
at_inputs t files stop after h = Stops-first (takes t.program t.history) (behind_inputs t.trace) files stop after h

behind_taken : {Y : Type 0} (view : Y → Given) (t : Texts) (x : Inputs) (files : Named) (r : Result Y Stop) (after : Option Named) → (takes t.program t.history).ending ≡ Ok x
    → after_calls (takes t.program t.history).calls files ≡ files → Runs view (behind_inputs t.trace x) files r after → Runs view (takes_given t) files r after
unfolding takes_given
behind_taken view t x files r after taken kept h =
    Runs-behind (takes t.program t.history) (behind_inputs t.trace) view files x r after taken
    (subst (λ q. Runs view (behind_inputs t.trace x) q r after) (sym kept) h)

pub at_spelling : (t : Texts) (x : Inputs) (files : Named) (stop : Stop) (after : Option Named) → (takes t.program t.history).ending ≡ Ok x
    → after_calls (takes t.program t.history).calls files ≡ files → Stops (spells (program_of x) (names_of x) t.trace) files stop after → Stops (takes_given t) files stop after
at_spelling t x files stop after taken kept h =
    behind_taken (λ (g : Given). g) t x files (Err stop) after taken kept (Stops-first (spells (program_of x) (names_of x) t.trace) (λ v. gives (given x v)) files stop after h)

pub at_given : {Y : Type 0} (view : Y → Given) (t : Texts) (x : Inputs) (v : TraceValue) (y : Y) (files : Named) → (takes t.program t.history).ending ≡ Ok x
    → after_calls (takes t.program t.history).calls files ≡ files → (spells (program_of x) (names_of x) t.trace).ending ≡ Ok v → view y ≡ given x v
    → Runs view (takes_given t) files (Ok y) (Some files)
at_given view t x v y files taken kept spelled is =
    behind_taken view t x files (Ok y) (Some files) taken kept (
    Runs-behind (spells (program_of x) (names_of x) t.trace) (λ u. gives (given x u)) view files v (Ok y) (Some files) spelled (ap Ok (sym is), refl)
    )

-- The whole.
abbrev pub behind_given : Given → Course Given
behind_given g = judges g >>= λ so. gives g

abbrev pub behind_texts : Texts → Course Given
behind_texts t = takes_given t >>= behind_given

abbrev itself : Given → Given
itself g = g

pub at_fetching : (files : Named) (w : CheckWords) (stop : Stop) (after : Option Named) → Stops (fetches_texts files w) files stop after → Stops (judged_course files w) files stop after
unfolding judged_course
at_fetching files w stop after h = Stops-first (fetches_texts files w) behind_texts files stop after h

behind_fetching : {Y : Type 0} (view : Y → Given) (files : Named) (w : CheckWords) (t : Texts) (r : Result Y Stop) (after : Option Named) → (fetches_texts files w).ending ≡ Ok t
    → after_calls (fetches_texts files w).calls files ≡ files → Runs view (behind_texts t) files r after → Runs view (judged_course files w) files r after
unfolding judged_course
behind_fetching view files w t r after fetched kept h =
    Runs-behind (fetches_texts files w) behind_texts view files t r after fetched (subst (λ q. Runs view (behind_texts t) q r after) (sym kept) h)

pub at_taking : (files : Named) (w : CheckWords) (t : Texts) (stop : Stop) (after : Option Named) → (fetches_texts files w).ending ≡ Ok t → after_calls (fetches_texts files w).calls files ≡ files
    → Stops (takes_given t) files stop after → Stops (judged_course files w) files stop after
at_taking files w t stop after fetched kept h = behind_fetching itself files w t (Err stop) after fetched kept (Stops-first (takes_given t) behind_given files stop after h)

-- the texts were read, and what they give
pub record IsGivenBy (files : Named) (w : CheckWords) (t : Texts) (g : Given) : Type 0 where
  pub fetched : (fetches_texts files w).ending ≡ Ok t
  pub kept : after_calls (fetches_texts files w).calls files ≡ files
  pub taken : (takes_given t).ending ≡ Ok g
  pub still : after_calls (takes_given t).calls files ≡ files

behind_taking : {Y : Type 0} (view : Y → Given) (files : Named) (w : CheckWords) (t : Texts) (g : Given) (r : Result Y Stop) (after : Option Named) → IsGivenBy files w t g
    → Runs view (behind_given g) files r after → Runs view (judged_course files w) files r after
behind_taking view files w t g r after k h =
    behind_fetching view files w t r after k.fetched k.kept (
    Runs-behind (takes_given t) behind_given view files g r after k.taken (subst (λ q. Runs view (behind_given g) q r after) (sym k.still) h)
    )

pub at_judging : (files : Named) (w : CheckWords) (t : Texts) (g : Given) (stop : Stop) (after : Option Named) → IsGivenBy files w t g → Stops (judges g) files stop after → Stops (judged_course files w) files stop after
at_judging files w t g stop after k h = behind_taking itself files w t g (Err stop) after k (Stops-first (judges g) (λ so. gives g) files stop after h)

pub at_judged : {Y : Type 0} (view : Y → Given) (files : Named) (w : CheckWords) (t : Texts) (y : Y) (after : Option Named) → IsGivenBy files w t (view y)
    → (judges (view y)).ending ≡ Ok tt → after_calls (judges (view y)).calls files ≡ files → after ≡ Some files → Runs view (judged_course files w) files (Ok y) after
at_judged view files w t y after k so calm e =
    behind_taking view files w t (view y) (Ok y) after k (
    Runs-behind (judges (view y)) (λ so. gives (view y)) view files tt (Ok y) after so (subst (λ q. Runs view (gives (view y)) q (Ok y) after) (sym calm) (refl, e))
    )
