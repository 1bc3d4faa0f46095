-- What is drawn.
use Rattle.std.specs.Prelude.{◌≡◌, ℕ, ◌+◌, nat_lt, nat_le, is_none, Bool, ◌&&◌, List, length, Option, Some, None, Ok, if◌then◌else◌}
use Rattle.dim_base.specs.Files.{Named, with_file}
use Rattle.dim_rag.specs.History.{past}
use Rattle.dim_run.specs.Run.{outcome_of}
use Rattle.dim_words.specs.Words.{CheckWords}
use Rattle.dim_inquiry.specs.Course.{after_calls}
use Rattle.dim_inquiry.specs.Judging.{Given, judged_course}
use Rattle.dim_picture.specs.Marks.{marks}
use Rattle.dim_picture.specs.Shapes.{shapes_of}
use Rattle.dim_picture.specs.Page.{picture_text}

-- the picture of a trace from a place on and before another
abbrev pub picture_of : Given → ℕ → ℕ → List ℕ
picture_of g from to = picture_text g.program g.names g.trace.fuel g.trace.depth g.trace.entries (outcome_of g.program g.trace.entries) (shapes_of (marks (past g.trace.entries))) from to

-- the places from one on and before another, where they are some of so many
abbrev pub within : ℕ → ℕ → ℕ → Option (ℕ × ℕ)
within from to count = if nat_lt from to && nat_le to count then Some (from, to) else None

-- the first place of a range, and the place behind its last one, of so many
abbrev pub first_of : Option ℕ → ℕ
first_of None = 0
first_of (Some place) = place

abbrev pub behind_of : Option ℕ → ℕ → ℕ
behind_of None count = count
behind_of (Some place) count = place + 1

-- whether neither is given, and there are more than 1,000
abbrev pub is_long : Option ℕ → Option ℕ → ℕ → Bool
is_long from to count = is_none from && (is_none to && nat_lt 1000 count)

-- the range of words that give its first and its last place, or one of them, or neither
abbrev pub range_of : Option ℕ → Option ℕ → ℕ → Option (ℕ × ℕ)
range_of from to count =
    if is_long from to count then None else within (first_of from) (behind_of to count) count

-- what `check` says yes to is drawn in its range, and the picture stands under its name; so many
-- entries it has
pub record IsDrawn (w : CheckWords) (picture : List ℕ) (from to : Option ℕ) (count : ℕ) (after : Option Named) (before : Named) : Type 0 where
  pub given : Given
  pub first : ℕ
  pub behind : ℕ
  pub judged : (judged_course before w).ending ≡ Ok given
  pub number : count ≡ length given.trace.entries
  pub range : range_of from to count ≡ Some (first, behind)
  pub files : after ≡ Some (with_file (after_calls (judged_course before w).calls before) picture (Some (picture_of given first behind)))
