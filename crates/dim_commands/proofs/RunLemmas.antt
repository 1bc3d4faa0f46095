-- How far a run came.
use Rattle.std.proofs.Common.{◌≡◌, [], Option, Some, Result, Ok, Err, OnOk, false, refl, sym, subst}
use Rattle.std.specs.Str.{bytes_eq}
use Rattle.dim_base.specs.Files.{Named, with_file}
use Rattle.dim_inquiry.specs.declared.report.Report.{Report}
use Rattle.dim_inquiry.specs.declared.stop.Stop.{Stop}
use Rattle.dim_inquiry.specs.declared.stop.Stop.TheVariants as stops
use Rattle.dim_words.specs.Words.{RunWords}
use Rattle.dim_inquiry.specs.Inputs.{Inputs}
use Rattle.dim_commands.specs.Output.{Left, entries_of, played_left}
use Rattle.dim_inquiry.specs.Course.{Course, Stops, Runs, WhereTold, after_calls}
use Rattle.dim_commands.specs.Lawful.{IsLawful}
use Rattle.dim_inquiry.specs.Taking.{fetches_inputs, IsTaken}
use Rattle.dim_commands.specs.Run.{course_with, stores_left, Stored}
use Rattle.dim_inquiry.proofs.Exports.{unchanged, Stops-first, Runs-behind}
use Rattle.dim_commands.proofs.StoreLemmas.{at_report as at_last, both_stored}

-- what was read of these files, which are as they were
pub record IsGot (files : Named) (w : RunWords) (x : Inputs) (told : Option Named) : Type 0 where
  pub got : (fetches_inputs files w.program w.history).ending ≡ Ok x
  pub made : told ≡ Some (after_calls (fetches_inputs files w.program w.history).calls files)
  pub kept : told ≡ Some files

module _ (left : Inputs → Left) (files : Named) (w : RunWords) where
  abbrev behind : Inputs → Course Report
  behind x = stores_left w.new_history w.trace (left x)

  -- a report is seen as it is
  abbrev same : Report → Report
  same r = r

  pub at_inputs : (stop : Stop) (after : Option Named) → Stops (fetches_inputs files w.program w.history) files stop after → Stops (course_with left files w) files stop after
  unfolding course_with
  at_inputs stop after h = Stops-first (fetches_inputs files w.program w.history) behind files stop after h

  module _ (x : Inputs) (told : Option Named) (is : IsGot files w x told) where
    pub at_stores : (r : Result Report Stop) (after : Option Named) → Runs (λ (q : Report). q) (stores_left w.new_history w.trace (left x)) files r after
        → Runs (λ (q : Report). q) (course_with left files w) files r after
    unfolding course_with
    at_stores r after h =
        Runs-behind (fetches_inputs files w.program w.history) behind same files x r after is.got
        (subst (λ q. Runs same (behind x) q r after) (sym (unchanged files (after_calls (fetches_inputs files w.program w.history).calls files) told is.kept is.made)) h)

    pub at_building : Stops (course_with left files w) files stops.OutOfMemory told
    at_building = at_stores (Err stops.OutOfMemory) told (record { made = []; left = (behind x).calls; order = refl; files = is.kept })

    pub ends_so : (course_with left files w).ending ≡ Ok ((left x).report)
    ends_so =
        let both = with_file (with_file files w.new_history (Some (left x).new_history)) w.trace (Some (left x).trace) in
        (at_stores (Ok ((left x).report)) (Some both) (at_last files w.new_history w.trace (left x) (Some both) refl)).0

-- what `run` has stored, where it reports
pub stored_so : (w : RunWords) (x : Inputs) (r : Result Report Stop) (told middle after : Option Named) → bytes_eq w.trace w.new_history ≡ false → IsLawful x w.settings (entries_of x w.settings)
    → WhereTold told (λ before. IsTaken before w.program w.history x) → WhereTold told (λ before. IsGot before w x middle)
    → WhereTold told (λ before. Runs (λ (q : Report). q) (stores_left w.new_history w.trace (played_left w.settings x)) before r after)
    → OnOk r (WhereTold told (λ before. Stored w before after))
stored_so w x (Ok report) told middle after apart lawful taken got stores = λ before is.
    let t = taken before is in
    record {
      program = t.program;
      history = t.history;
      inputs = x;
      fetched = t.fetched;
      fetched_history = t.fetched_history;
      assembled = t.assembled;
      read = t.read;
      lawful = lawful;
      apart = apart;
      files = both_stored before w.new_history w.trace (played_left w.settings x) report after (stores before is);
      ending = ends_so (played_left w.settings) before w x middle (got before is);
    }
stored_so w x (Err stop) told middle after apart lawful taken got stores = tt
