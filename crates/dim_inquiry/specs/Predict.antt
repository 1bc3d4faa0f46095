-- `predict`.
use Rattle.std.specs.Prelude.{◌≡◌, ℕ, ◌-◌, List, ◌++◌, length, codes, Ok, Err, nat_lt, if◌then◌else◌}
use Rattle.std.specs.Fmt.{decimal}
use Rattle.dim_base.specs.Files.{Named}
use Rattle.dim_history_file.specs.Judging.{history_of}
use Rattle.dim_history_file.specs.Seen.{value_of}
use Rattle.dim_history_file.specs.Spelling.{history_text}
use Rattle.dim_history_file.specs.Value.{NamedSig, named}
use Rattle.dim_predict.specs.Adopted.{adopted}
use Rattle.dim_predict.specs.Candidates.{candidates_of, different}
use Rattle.dim_predict.specs.Nestings.{contents}
use Rattle.dim_predict.specs.declared.prediction.Prediction.{Prediction}
use Rattle.dim_words.specs.Words.{PredictWords}
use Rattle.dim_inquiry.specs.declared.report.Report.{Report}
use Rattle.dim_inquiry.specs.declared.report.Ending.TheVariants as endings
use Rattle.dim_inquiry.specs.declared.stop.Place.TheVariants.{NewHistory}
use Rattle.dim_inquiry.specs.declared.stop.Refusal.TheVariants as refusals
use Rattle.dim_inquiry.specs.Course.{Course, ◌>>=◌, ends, gives, stores}
use Rattle.dim_inquiry.specs.Judging.{Given, judged_course}

-- what a trace foretells: the signatures of the history with those that it adopts, how many
-- candidates there are, and how many of them it adopts
pub record Foretold : Type 0 where
  pub sigs : List NamedSig
  pub candidates : ℕ
  pub added : ℕ

-- the candidates of what was judged, with this depth, and the history that adopts them
abbrev pub foretold_by : ℕ → Given → Foretold
foretold_by depth g =
    let found = candidates_of g.loaded depth g.trace.entries in
    let sigs = adopted g.names g.loaded found in
    record { sigs = named g.names sigs; candidates = length found; added = length sigs - length g.loaded }

-- the nestings of a trace may say 4,096 different things
abbrev pub foretells : ℕ → Given → Course Foretold
foretells depth g =
    if nat_lt 4096 (length (different (contents g.trace.entries)))
    then ends (Err refusals.ManyNestings) else gives (foretold_by depth g)

-- the report: how many candidates there are, and how many were added to the history
abbrev pub foretold_report : ℕ → ℕ → Report
foretold_report candidates added = record {
  ending = endings.Done;
  text = codes "candidates "
      ++ (decimal candidates ++ (codes " added " ++ (decimal added ++ codes "\n")));
}

-- `predict`, over these files
unfoldable pub predict_course : Named → PredictWords → Course Report
predict_course files w = do
  given ← judged_course files w.judged
  foretold ← foretells w.depth given
  stored ← stores NewHistory w.new_history (history_text foretold.sigs)
  gives (foretold_report foretold.candidates foretold.added)

-- what is foretold
abbrev pub foretold_of : Prediction → Foretold
foretold_of p = record { sigs = value_of p.history; candidates = p.candidates; added = p.added }

-- the text of the new history is read as that history
abbrev pub ReadsAgain : PredictWords → Named → Type 0
ReadsAgain w before = (g : Given) → (judged_course before w.judged).ending ≡ Ok g
    → history_of (history_text (foretold_by w.depth g).sigs) ≡ Ok (foretold_by w.depth g).sigs
