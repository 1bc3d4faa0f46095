-- `depths`.
use Rattle.std.specs.Prelude.{◌≡◌, ℕ, List, ◌++◌, length, map, codes, Ok}
use Rattle.std.specs.Fmt.{decimal}
use Rattle.std.specs.List.{zip}
use Rattle.dim_base.specs.Files.{Named}
use Rattle.dim_execution.specs.Start.{gate_of}
use Rattle.dim_rag.specs.History.{past}
use Rattle.dim_signature.specs.Sig.{Sig}
use Rattle.dim_tune.specs.Depths.{AreLeastDepths}
use Rattle.dim_tune.specs.Found.{least_depths}
use Rattle.dim_words.specs.Words.{CheckWords}
use Rattle.dim_inquiry.specs.declared.report.Report.{Report}
use Rattle.dim_inquiry.specs.declared.report.Ending.TheVariants as endings
use Rattle.dim_inquiry.specs.Course.{Course}
use Rattle.dim_inquiry.specs.Judging.{Given, judged_course, reports_on}
use Rattle.dim_inquiry.specs.Report.{by_number}

-- the line of a signature: its number, its depth, and the least depth at which a trace is legal
unfoldable pub depth_line : ℕ → ℕ × ℕ → List ℕ
depth_line i depths =
    codes "signature "
    ++ (decimal i ++ (codes " depth " ++ (decimal depths.0 ++ (codes " least " ++ (decimal depths.1 ++ codes "\n")))))

-- the report: of each signature its depth, and its least depth
abbrev pub depths_text : List Sig → List ℕ → List ℕ
depths_text sigs least = by_number depth_line 0 (zip (map (λ s. s.depth) sigs) least)
    ++ (codes "signatures " ++ (decimal (length sigs) ++ codes "\n"))

abbrev pub depths_told : List Sig → List ℕ → Report
depths_told sigs least = record { ending = endings.Done; text = depths_text sigs least }

-- the least depths of the signatures with which a trace was made
abbrev pub least_of : Given → List ℕ
least_of g = least_depths (gate_of g.program g.loaded g.trace.depth) (past g.trace.entries)

-- what is told of them
abbrev pub told : Given → Report
told g = depths_told g.loaded (least_of g)

-- where the trace is judged, they are the least at which its entries are legal
abbrev pub AreLeast : CheckWords → Named → Type 0
AreLeast w before = (g : Given) → (judged_course before w).ending ≡ Ok g
    → AreLeastDepths (gate_of g.program g.loaded g.trace.depth) (past g.trace.entries) (least_of g)

-- `depths`, over these files
abbrev pub depths_course : Named → CheckWords → Course Report
depths_course files w = reports_on told files w
