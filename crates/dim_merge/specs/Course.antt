-- What the program does where no call fails.
use Rattle.std.specs.Prelude.{ℕ, nat_lt, if◌then◌else◌, List, length, Option, Some, None, Result, Ok, Err, codes}
use Rattle.dim_base.specs.Files.{Named}
use Rattle.dim_text.specs.Reading.{◌>>=◌, or_else}
use Rattle.dim_history_file.specs.Judging.{history_of}
use Rattle.dim_history_file.specs.Spelling.{history_text}
use Rattle.dim_history_file.specs.Value.{NamedSig}
use Rattle.dim_merge.specs.declared.stop.Place.{Place}
use Rattle.dim_merge.specs.declared.stop.Place.TheVariants.{First, Second}
use Rattle.dim_merge.specs.declared.stop.Refusal.{Refusal}
use Rattle.dim_merge.specs.declared.stop.Refusal.TheVariants.{Words, Absent, Long, Bad, Full}
use Rattle.dim_merge.specs.Merging.{Size, merge_of}
use Rattle.dim_merge.specs.Report.{counts_of, report_line}
use Rattle.dim_merge.specs.Words.{MergeWords, is_dash, merge_words}

-- the text of the history that knows no signature
abbrev pub empty_history : List ℕ
empty_history = codes "dim history 2\nend 0\n"

-- the bytes under a name, of which there may be 8,388,608
abbrev pub file_at : Option (List ℕ) → Place → Result (List ℕ) Refusal
file_at None place = Err (Absent place)
file_at (Some bytes) place = if nat_lt 8388608 (length bytes) then Err (Long place) else Ok bytes

-- the text of the history that a word names: `-` isn't fetched
abbrev pub text_at : Named → Place → List ℕ → Result (List ℕ) Refusal
text_at files place name = if is_dash name then Ok empty_history else file_at (files name) place

-- what was read, or what its error is refused with
abbrev pub refusing : {A E : Type 0} → (E → Refusal) → Result A E → Result A Refusal
refusing refusal (Ok x) = Ok x
refusing refusal (Err e) = Err (refusal e)

abbrev pub reads : Place → List ℕ → Result (List NamedSig) Refusal
reads place bytes = refusing (Bad place) (history_of bytes)

unfoldable pub texts : Named → MergeWords → Result (List ℕ × List ℕ) Refusal
texts files w = do
  first ← text_at files First w.first
  second ← text_at files Second w.second
  Ok (first, second)

unfoldable pub histories : List ℕ × List ℕ → Result (List NamedSig × List NamedSig) Refusal
histories bytes = do
  first ← reads First bytes.0
  second ← reads Second bytes.1
  Ok (first, second)

-- the file that is written, what is written, and what is told of it
pub record Made : Type 0 where
  pub name : List ℕ
  pub text : List ℕ
  pub report : List ℕ

abbrev pub too_full : Size → Refusal
too_full size = Full size.signatures size.bytes

unfoldable pub makes : List ℕ → List NamedSig × List NamedSig → Result Made Refusal
makes name both = do
  sigs ← refusing too_full (merge_of both.0 both.1)
  Ok (record { name = name; text = history_text sigs; report = report_line (counts_of both.0 both.1 sigs) })

-- what is made of two texts
unfoldable pub makes_of : List ℕ → List ℕ × List ℕ → Result Made Refusal
makes_of name bytes = do
  both ← histories bytes
  makes name both

-- what the program makes of its words and of some files
unfoldable pub course : Named → List (List ℕ) → Result Made Refusal
course files words = do
  w ← or_else (merge_words words) Words
  bytes ← texts files w
  makes_of w.new_history bytes
