-- The shapes of a picture: where each mark ends, and in which row of its thread's lane it stands.
use Rattle.std.specs.Prelude.{ℕ, suc, ◌+◌, ◌==◌, nat_le, Bool, true, false, ◌&&◌, if◌then◌else◌, List, [], ◌∷◌, ◌++◌, length, slice_get, Option, Some, None}
use Rattle.dim_base.specs.declared.Tid.{Tid}
use Rattle.dim_base.specs.declared.Lid.{Lid}
use Rattle.dim_picture.specs.declared.mark.Mark.{Mark}
use Rattle.dim_picture.specs.declared.mark.Mark.TheVariants.{Wait, Yield, Hold, Deeper, Inner, Free, Miss, End, Break, Learn}
use Rattle.dim_picture.specs.declared.rows.Seat.{Seat}
use Rattle.dim_picture.specs.declared.rows.Seat.TheVariants as seat
use Rattle.dim_picture.specs.declared.rows.Slot.{Slot}
use Rattle.dim_picture.specs.declared.shape.Shape.{Shape}

-- ---- ends

-- whether a mark is of thread t
abbrev pub is_of : ℕ → Mark → Bool
is_of t (Wait u l) = u.0 == t
is_of t (Yield u l sig) = u.0 == t
is_of t (Hold u l) = u.0 == t
is_of t (Deeper u l birth) = u.0 == t
is_of t (Inner u l birth) = u.0 == t
is_of t (Free u l birth) = u.0 == t
is_of t (Miss u l) = u.0 == t
is_of t (End u why) = u.0 == t
is_of t (Break u l) = u.0 == t
is_of t Learn = false

-- whether a mark is the Free that ends a hold of t on l
abbrev pub frees : Tid → Lid → Mark → Bool
frees t l (Free u m birth) = (u.0 == t.0) && (m.0 == l.0)
frees t l _ = false

-- whether a mark ends at a later one: what waits or yields at the next of its thread, a hold where
-- it is freed, and all else at the next one
abbrev pub closes : Mark → Mark → Bool
closes (Wait t l) n = is_of t.0 n
closes (Yield t l sig) n = is_of t.0 n
closes (Break t l) n = is_of t.0 n
closes (Hold t l) n = frees t l n
closes _ n = true

-- the first place, from q on, whose mark is one at which m ends, or behind them all
abbrev pub end_from : Mark → ℕ → List Mark → ℕ
end_from m q [] = q
end_from m q (n ∷ ns) = if closes m n then q else end_from m (q + 1) ns

-- ---- rows

-- where a mark stands: in a row of its own of its thread's lane, in the row of the mark at a place,
-- or in no lane
abbrev pub seat_of : Mark → Seat
seat_of (Wait t l) = seat.Own t
seat_of (Yield t l sig) = seat.Own t
seat_of (Hold t l) = seat.Own t
seat_of (Deeper t l birth) = seat.Beside birth
seat_of (Inner t l birth) = seat.Beside birth
seat_of (Free t l birth) = seat.Beside birth
seat_of (Miss t l) = seat.Own t
seat_of (End t why) = seat.Own t
seat_of (Break t l) = seat.Own t
seat_of Learn = seat.Nowhere

-- the first row of t's lane that is free at a place. A slot is a row of a lane, with the place
-- until which it is taken
abbrev pub first_free : ℕ → ℕ → List Slot → ℕ
first_free t p [] = 0
first_free t p (s ∷ ss) = if s.t.0 == t then (if nat_le s.until p then 0 else suc (first_free t p ss)) else first_free t p ss

-- the slots after that row was taken until another place
abbrev pub with_taken : Tid → ℕ → ℕ → List Slot → List Slot
with_taken t p q [] = record { t = t; until = q } ∷ []
with_taken t p q (s ∷ ss) = if (s.t.0 == t.0) && nat_le s.until p then record { t = s.t; until = q } ∷ ss else s ∷ with_taken t p q ss

abbrev pub row_of : Option Shape → ℕ
row_of None = 0
row_of (Some s) = s.row

abbrev pub row_at : List Slot → List Shape → Seat → ℕ
row_at slots before (seat.Own t) = first_free t.0 (length before) slots
row_at slots before (seat.Beside birth) = row_of (slice_get before birth)
row_at slots before seat.Nowhere = 0

abbrev pub slots_after : List Slot → ℕ → ℕ → Seat → List Slot
slots_after slots p q (seat.Own t) = with_taken t p q slots
slots_after slots p q _ = slots

-- ---- shapes

abbrev pub shape_of : List Slot → List Shape → Mark → List Mark → Shape
shape_of slots before m ms = record { mark = m; end = end_from m (length before + 1) ms; row = row_at slots before (seat_of m) }

-- the shapes of the marks behind those before, where these rows are taken
abbrev pub shapes_from : List Slot → List Shape → List Mark → List Shape
shapes_from slots before [] = before
shapes_from slots before (m ∷ ms) = shapes_from
    (slots_after slots (length before) (end_from m (length before + 1) ms) (seat_of m))
    (before ++ shape_of slots before m ms ∷ []) ms

unfoldable pub shapes_of : List Mark → List Shape
shapes_of ms = shapes_from [] [] ms
