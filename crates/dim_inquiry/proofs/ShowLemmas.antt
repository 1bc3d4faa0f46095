-- How far `show` came.
use Rattle.std.proofs.Common.{◌≡◌, ℕ, List, [], Option, Some, Result, Ok, Err, refl, sym, subst, append-nil}
use Rattle.dim_base.specs.Files.{Named}
use Rattle.dim_history_file.specs.Value.{NamedSig}
use Rattle.dim_inquiry.specs.declared.report.Report.{Report}
use Rattle.dim_inquiry.specs.declared.stop.Stop.{Stop}
use Rattle.dim_inquiry.specs.declared.stop.Stop.TheVariants as stops
use Rattle.dim_inquiry.specs.Show.{shown, show_course}
use Rattle.dim_inquiry.specs.Course.{Course, Stops, Runs, after_calls, gives, ◌>>=◌}
use Rattle.dim_inquiry.specs.Taking.{fetches_history, reads}
use Rattle.dim_inquiry.proofs.CourseLemmas.{Stops-first, Runs-behind}

abbrev behind_fetch : List ℕ → Course Report
behind_fetch bytes = reads bytes >>= λ sigs. gives (shown sigs)

abbrev same : Report → Report
same r = r

pub at_fetch : (files : Named) (name : List ℕ) (stop : Stop) (after : Option Named) → Stops (fetches_history files name) files stop after → Stops (show_course files name) files stop after
unfolding show_course
at_fetch files name stop after h = Stops-first (fetches_history files name) behind_fetch files stop after h

behind : (files : Named) (name bytes : List ℕ) (r : Result Report Stop) (after : Option Named) → (fetches_history files name).ending ≡ Ok bytes → after_calls (fetches_history files name).calls files ≡ files
    → Runs same (behind_fetch bytes) files r after → Runs same (show_course files name) files r after
unfolding show_course
behind files name bytes r after got kept h =
    Runs-behind (fetches_history files name) behind_fetch same files bytes r after got (subst (λ m. Runs same (behind_fetch bytes) m r after) (sym kept) h)

pub at_reading : (files : Named) (name bytes : List ℕ) (stop : Stop) (after : Option Named) → (fetches_history files name).ending ≡ Ok bytes → after_calls (fetches_history files name).calls files ≡ files
    → Stops (reads bytes) files stop after → Stops (show_course files name) files stop after
at_reading files name bytes stop after got kept h = behind files name bytes (Err stop) after got kept (Stops-first (reads bytes) (λ sigs. gives (shown sigs)) files stop after h)

-- behind the history's text
pub at_report : (files : Named) (name bytes : List ℕ) (sigs : List NamedSig) (after : Option Named) → (fetches_history files name).ending ≡ Ok bytes → after_calls (fetches_history files name).calls files ≡ files
    → (reads bytes).ending ≡ Ok sigs → after ≡ Some files → Runs (λ (r : Report). r) (show_course files name) files (Ok (shown sigs)) after
at_report files name bytes sigs after got kept read e =
    behind files name bytes (Ok (shown sigs)) after got kept (Runs-behind (reads bytes) (λ s. gives (shown s)) same files sigs (Ok (shown sigs)) after read (refl, e))

pub at_building : (files : Named) (name bytes : List ℕ) (sigs : List NamedSig) (after : Option Named) → (fetches_history files name).ending ≡ Ok bytes → after_calls (fetches_history files name).calls files ≡ files
    → (reads bytes).ending ≡ Ok sigs → after ≡ Some files → Stops (show_course files name) files stops.OutOfMemory after
at_building files name bytes sigs after got kept read e =
    let h : Runs same (show_course files name) files (Ok (shown sigs)) after = at_report files name bytes sigs after got kept read e in
    record { made = (show_course files name).calls; left = []; order = sym (append-nil (show_course files name).calls); files = h.1 }
