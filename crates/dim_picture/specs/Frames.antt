-- Where a picture has its places and lanes, in pixels.
use Rattle.std.specs.Prelude.{ℕ, zero, suc, ◌+◌, ◌-◌, ◌*◌, ◌==◌, min, max, nat_le, nat_lt, Bool, ◌&&◌, if◌then◌else◌, List, [], ◌∷◌, ◌++◌, slice_get, Option, Some, None}
use Rattle.dim_base.specs.declared.Tid.{Tid}
use Rattle.dim_picture.specs.Value.{FrameValue}
use Rattle.dim_picture.specs.declared.rows.Seat.{Seat}
use Rattle.dim_picture.specs.declared.rows.Seat.TheVariants.{Own}
use Rattle.dim_picture.specs.declared.shape.Shape.{Shape}
use Rattle.dim_picture.specs.Shapes.{seat_of}

-- from a place to the next, by the number of places
abbrev pub step_of : ℕ → ℕ
step_of n = if nat_le n 24 then 46 else (if nat_le n 50 then 24 else 14)

-- the place of the range that is nearest, counted from its first
abbrev pub column : FrameValue → ℕ → ℕ
column f p = min (max p f.from) f.to - f.from

abbrev pub x_of : FrameValue → ℕ → ℕ
x_of f p = 20 + step_of (f.to - f.from) * column f p

abbrev pub or_zero : Option ℕ → ℕ
or_zero None = 0
or_zero (Some n) = n

abbrev pub top_of : FrameValue → Tid → ℕ
top_of f t = or_zero (slice_get f.tops t.0)

abbrev pub y_of : FrameValue → Tid → ℕ → ℕ
y_of f t row = top_of f t + 22 + 24 * row

abbrev pub width_of : FrameValue → ℕ
width_of f = max (x_of f f.to + 70) 840

-- whether a shape at p reaches into the range
abbrev pub is_shown : FrameValue → ℕ → Shape → Bool
is_shown f p s = nat_lt p f.to && nat_lt f.from s.end

-- ---- lanes

-- the rows that a shape wants of the lane of t
abbrev pub rows_for : ℕ → ℕ → Seat → ℕ
rows_for t row (Own u) = if u.0 == t then row + 1 else 1
rows_for t row _ = 1

-- those of a shape at p, where it reaches into the range
abbrev pub rows_shown : ℕ → ℕ → ℕ → ℕ → Shape → ℕ
rows_shown from to t p s = if nat_lt p to && nat_lt from s.end then rows_for t s.row (seat_of s.mark) else 1

-- the most of so many and those of the shapes from p on
abbrev pub rows_from : ℕ → ℕ → ℕ → ℕ → ℕ → List Shape → ℕ
rows_from from to t most p [] = most
rows_from from to t most p (s ∷ ss) = rows_from from to t (max most (rows_shown from to t p s)) (p + 1) ss

-- how many rows the lane of t has
abbrev pub rows_of : ℕ → ℕ → List Shape → ℕ → ℕ
rows_of from to shapes t = rows_from from to t 1 0 shapes

-- the end of a lane that begins at a top
abbrev pub below : ℕ → ℕ → ℕ
below top rows = min (top + 30 + 24 * rows) 4294967295

-- the end of the first n lanes
abbrev pub end_of_lanes : ℕ → ℕ → List Shape → ℕ → ℕ
end_of_lanes from to shapes zero = 70
end_of_lanes from to shapes (suc n) = below (end_of_lanes from to shapes n) (rows_of from to shapes n)

-- the tops of the first n lanes
abbrev pub tops_of : ℕ → ℕ → List Shape → ℕ → List ℕ
tops_of from to shapes zero = []
tops_of from to shapes (suc n) = tops_of from to shapes n ++ end_of_lanes from to shapes n ∷ []

-- the frame of a range, with a lane for each of n threads
abbrev pub frame_of : ℕ → ℕ → List Shape → ℕ → FrameValue
frame_of from to shapes n = record { from = from; to = to; tops = tops_of from to shapes n; bottom = end_of_lanes from to shapes n }
