-- How far a command came that reports on what was judged.
use Rattle.std.proofs.Common.{◌≡◌, [], Option, Some, Ok, Err, refl}
use Rattle.dim_base.specs.Files.{Named}
use Rattle.dim_inquiry.specs.declared.report.Report.{Report}
use Rattle.dim_inquiry.specs.declared.stop.Stop.{Stop}
use Rattle.dim_inquiry.specs.declared.stop.Stop.TheVariants as stops
use Rattle.dim_words.specs.Words.{CheckWords}
use Rattle.dim_inquiry.specs.Course.{Course, Stops, Runs, after_calls, gives}
use Rattle.dim_inquiry.specs.Judging.{Given, judged_course, reports_on}
use Rattle.dim_inquiry.proofs.CourseLemmas.{Stops-first, Runs-behind}

module _ (report : Given → Report) (files : Named) (w : CheckWords) where
  abbrev behind : Given → Course Report
  behind g = gives (report g)

  abbrev shown : Report → Report
  shown r = r

  pub at_judging : (stop : Stop) (after : Option Named) → Stops (judged_course files w) files stop after → Stops (reports_on report files w) files stop after
  unfolding reports_on
  at_judging stop after h = Stops-first (judged_course files w) behind files stop after h

  module _ (g : Given) (after : Option Named) (judged : (judged_course files w).ending ≡ Ok g) (made : after ≡ Some (after_calls (judged_course files w).calls files)) where
    pub at_report : Runs (λ (r : Report). r) (reports_on report files w) files (Ok (report g)) after
    unfolding reports_on
    at_report = Runs-behind (judged_course files w) behind shown files g (Ok (report g)) after judged (refl, made)

    pub at_building : Stops (reports_on report files w) files stops.OutOfMemory after
    unfolding reports_on
    at_building = Runs-behind (judged_course files w) behind shown files g (Err stops.OutOfMemory) after judged (record { made = []; left = []; order = refl; files = made })
