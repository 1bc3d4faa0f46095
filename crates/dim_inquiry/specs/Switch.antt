-- `switch`.
use Rattle.std.specs.Prelude.{ℕ, suc, Bool, List, [], ◌∷◌, ◌++◌, length, codes, zero, Err, nat_lt, if◌then◌else◌}
use Rattle.std.specs.Fmt.{decimal}
use Rattle.dim_text.specs.States.{state_word}
use Rattle.dim_history_file.specs.Value.{NamedSig}
use Rattle.dim_inquiry.specs.declared.report.Report.{Report}
use Rattle.dim_inquiry.specs.declared.report.Ending.TheVariants as endings
use Rattle.dim_history_file.specs.Spelling.{history_text}
use Rattle.dim_inquiry.specs.declared.stop.Refusal.TheVariants as refusals
use Rattle.dim_base.specs.Files.{Named}
use Rattle.dim_inquiry.specs.declared.stop.Place.TheVariants.{NewHistory}
use Rattle.dim_words.specs.Words.{SwitchWords}
use Rattle.dim_inquiry.specs.Course.{Course, ◌>>=◌, ends, gives, stores}
use Rattle.dim_inquiry.specs.Taking.{fetches_history, reads}

-- the report of `switch`: the number of the signature, and the state that it is in now
abbrev pub switched : ℕ → Bool → Report
switched i on = record { ending = endings.Done; text = codes "signature " ++ (decimal i ++ (codes " " ++ (state_word on ++ codes "\n"))) }

-- the signature in this state
abbrev pub in_state : Bool → NamedSig → NamedSig
in_state on s = record s { on = on }

-- the signatures, of which the one with this number is in this state
abbrev pub switched_at : ℕ → Bool → List NamedSig → List NamedSig
switched_at i on [] = []
switched_at zero on (s ∷ sigs) = in_state on s ∷ sigs
switched_at (suc i) on (s ∷ sigs) = s ∷ switched_at i on sigs

-- a history has a signature with this number
abbrev pub numbers : List NamedSig → ℕ → Course (Unit {0})
numbers sigs index = if nat_lt index (length sigs) then gives tt else ends (Err (refusals.NoSignature index))

-- a history is read, and one signature of it is in another state
unfoldable pub switches : SwitchWords → List ℕ → Course (List NamedSig)
switches w history = do
  sigs ← reads history
  there ← numbers sigs w.index
  gives (switched_at w.index w.on sigs)

-- `switch`, over these files
unfoldable pub switch_course : Named → SwitchWords → Course Report
switch_course files w = do
  history ← fetches_history files w.history
  sigs ← switches w history
  stored ← stores NewHistory w.new_history (history_text sigs)
  gives (switched w.index w.on)
