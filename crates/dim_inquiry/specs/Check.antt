-- `check`.
use Rattle.std.specs.Prelude.{ℕ, ◌++◌, length, codes, Err}
use Rattle.std.specs.Fmt.{decimal}
use Rattle.dim_inquiry.specs.declared.report.Report.{Report}
use Rattle.dim_inquiry.specs.declared.report.Ending.TheVariants as endings
use Rattle.dim_base.specs.Files.{Named}
use Rattle.dim_trace.specs.declared.verdict.Verdict.{Verdict}
use Rattle.dim_trace.specs.declared.verdict.Verdict.TheVariants as verdict
use Rattle.dim_inquiry.specs.declared.stop.Refusal.TheVariants as refusals
use Rattle.dim_words.specs.Words.{CheckWords}
use Rattle.dim_inquiry.specs.Course.{Course, ends, gives}
use Rattle.dim_inquiry.specs.Judging.{Given, reports_on}

-- the report of `check` on so many entries, which execute the program
abbrev pub checked : ℕ → Report
checked entries = record { ending = endings.Done; text = codes "yes " ++ (decimal entries ++ codes "\n") }

-- a report on so many entries, or a refusal, by the verdict
abbrev pub tells : ℕ → Verdict → Course Report
tells entries verdict.Yes = gives (checked entries)
tells entries (verdict.No place rule) = ends (Err (refusals.No place rule))

-- `check`, over these files
abbrev pub approved : Given → Report
approved g = checked (length g.trace.entries)

abbrev pub check_course : Named → CheckWords → Course Report
check_course files w = reports_on approved files w
