-- `why`.
use Rattle.std.specs.Prelude.{ℕ, List}
use Rattle.dim_asm.specs.Code.{Code}
use Rattle.dim_signature.specs.Sig.{Sig}
use Rattle.dim_trace.specs.Value.{TraceValue}
use Rattle.dim_why.specs.Explanation.{explanation_of}
use Rattle.dim_why.specs.Text.{why_text}
use Rattle.dim_inquiry.specs.declared.report.Report.{Report}
use Rattle.dim_inquiry.specs.declared.report.Ending.TheVariants as endings
use Rattle.dim_base.specs.Files.{Named}
use Rattle.dim_words.specs.Words.{CheckWords}
use Rattle.dim_inquiry.specs.Course.{Course}
use Rattle.dim_inquiry.specs.Judging.{Given, reports_on}

-- the report of `why` on a trace, which executes a program, with names from a table, where these
-- signatures were loaded
abbrev pub explained_by : Code → List (List ℕ) → List Sig → TraceValue → Report
explained_by p names loaded t = record { ending = endings.Done; text = why_text p names loaded t.depth t.entries (explanation_of t.entries) }

-- `why`, over these files
abbrev pub explained : Given → Report
explained g = explained_by g.program g.names g.loaded g.trace

abbrev pub why_course : Named → CheckWords → Course Report
why_course files w = reports_on explained files w
