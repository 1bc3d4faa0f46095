-- Bytes that were fetched stand under their names.
use Rattle.std.proofs.Common.{◌≡◌, ℕ, List, length, Option, Some, None, Result, Ok, Err, Bool, true, false, cond, ltb, refl, ap}
use Rattle.dim_base.specs.Files.{Named}
use Rattle.dim_inquiry.specs.declared.stop.Place.{Place}
use Rattle.dim_inquiry.specs.declared.stop.Place.TheVariants.{History}
use Rattle.dim_inquiry.specs.declared.stop.Refusal.{Refusal}
use Rattle.dim_inquiry.specs.declared.stop.Refusal.TheVariants.{Long}
use Rattle.dim_words.specs.Words.{is_dash}
use Rattle.dim_inquiry.specs.Inputs.{empty_history}
use Rattle.dim_inquiry.specs.Course.{file_at, fetches, gives}
use Rattle.dim_inquiry.specs.Taking.{fetches_history, IsUnder}

-- bytes that were fetched stand there
short : (b : Bool) (place : Place) (bytes got : List ℕ) → ◌≡◌ {A = Result (List ℕ) Refusal} (cond b (Err (Long place)) (Ok bytes)) (Ok got) → bytes ≡ got
short true place bytes got e = cc
short false place bytes got e = cc

pub there : (o : Option (List ℕ)) (place : Place) (limit : ℕ) (bytes : List ℕ) → file_at o place limit ≡ Ok bytes → o ≡ Some bytes
there None place limit bytes e = cc
there (Some b) place limit bytes e = ap Some (short (ltb limit (length b)) place b bytes e)

under_by : (files : Named) (name bytes : List ℕ) (b : Bool) → is_dash name ≡ b → (cond b (gives empty_history) (fetches files History name 8388608)).ending ≡ Ok bytes → IsUnder files name bytes
under_by files name bytes true is e = record { dash = λ d. cc (e); file = λ d. absurd cc (is, d) }
under_by files name bytes false is e = record { dash = λ d. absurd cc (is, d); file = λ d. there (files name) History 8388608 bytes e }

pub under : (files : Named) (name bytes : List ℕ) → (fetches_history files name).ending ≡ Ok bytes → IsUnder files name bytes
under files name bytes e = under_by files name bytes (is_dash name) refl e
