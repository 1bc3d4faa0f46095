-- Which shapes are drawn of a range.
use Rattle.std.specs.Prelude.{◌≡◌, ℕ, ◌<◌, ◌≤◌, true, List, slice_get, Some}
use Rattle.dim_rag.specs.declared.entry.Entry.{Entry}
use Rattle.dim_picture.specs.declared.shape.Shape.{Shape}
use Rattle.dim_picture.specs.Frames.{is_shown}
use Rattle.dim_picture.specs.Places.{AreShapes}
use Rattle.dim_picture.specs.Value.{FrameValue}

-- the shape at each place of the range is drawn
abbrev pub RangeLaw : Type 0
RangeLaw = (entries : List Entry) (shapes : List Shape) (f : FrameValue) → AreShapes entries shapes
    → (p : ℕ) (s : Shape) → slice_get shapes p ≡ Some s → f.from ≤ p → p < f.to
    → is_shown f p s ≡ true
