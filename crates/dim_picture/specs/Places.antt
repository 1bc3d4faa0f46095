-- What a picture shows, by places of the list of entries as it is kept, oldest first.
use Rattle.std.specs.Prelude.{◌≡◌, ℕ, ◌<◌, ◌≤◌, true, false, List, length, slice_get, Some}
use Rattle.dim_rag.specs.declared.entry.Entry.{Entry}
use Rattle.dim_rag.specs.Places.{before}
use Rattle.dim_rag.specs.History.{past}
use Rattle.dim_picture.specs.declared.mark.Mark.{Mark}
use Rattle.dim_picture.specs.declared.shape.Shape.{Shape}
use Rattle.dim_picture.specs.Marks.{mark_of, marks}
use Rattle.dim_picture.specs.Shapes.{closes, shapes_of}

-- what the entry at a place is
abbrev pub IsMarkAt : List Entry → ℕ → Mark → Type 0
IsMarkAt entries p m = (e : Entry) × (slice_get entries p ≡ Some e) × (m ≡ mark_of (before p entries) e)

-- a mark at p ends at q: the entry there is the first behind p at which it ends, or q is behind all
-- entries, and it ends at none of them
pub record IsEnd (entries : List Entry) (p : ℕ) (m : Mark) (q : ℕ) : Type 0 where
  pub behind : p < q
  pub within : q ≤ length entries
  pub closed : (n : Mark) → IsMarkAt entries q n → closes m n ≡ true
  pub first : (r : ℕ) (n : Mark) → p < r → r < q → IsMarkAt entries r n → closes m n ≡ false

-- the shape at a place is that of the entry there
pub record IsShapeAt (entries : List Entry) (p : ℕ) (s : Shape) : Type 0 where
  pub mark : IsMarkAt entries p s.mark
  pub end : IsEnd entries p s.mark s.end

-- each entry has one shape, at its place
pub record AreShapes (entries : List Entry) (shapes : List Shape) : Type 0 where
  pub count : length shapes ≡ length entries
  pub each : (p : ℕ) (s : Shape) → slice_get shapes p ≡ Some s → IsShapeAt entries p s

abbrev pub ShapesLaw : Type 0
ShapesLaw = (entries : List Entry) → AreShapes entries (shapes_of (marks (past entries)))
