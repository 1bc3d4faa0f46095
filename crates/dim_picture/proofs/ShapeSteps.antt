-- The shapes of marks, one by one.
use Rattle.std.proofs.Common.{◌≡◌, ℕ, ◌+◌, ◌≤◌, refl, ap, sym, ◌∙◌, arith, List, [], ◌∷◌, ◌++◌, length, drop}
use Rattle.std.proofs.lemmas.List.{length_push}
use Rattle.dim_picture.specs.declared.mark.Mark.{Mark}
use Rattle.dim_picture.specs.declared.rows.Seat.{Seat}
use Rattle.dim_picture.specs.declared.rows.Seat.TheVariants as seat
use Rattle.dim_picture.specs.declared.rows.Slot.{Slot}
use Rattle.dim_picture.specs.declared.shape.Shape.{Shape}
use Rattle.dim_picture.specs.Shapes.{end_from, row_at, seat_of, slots_after, shapes_from, shapes_of}
use Rattle.dim_picture.proofs.Rowing.{few_taken}

-- one shape more
pub one_more : (slots slots' : List Slot) (before before' : List Shape) (m : Mark) (ms : List Mark) (p end row : ℕ)
    → length before ≡ p → end ≡ end_from m (p + 1) ms → row ≡ row_at slots before (seat_of m) → slots' ≡ slots_after slots (length before) end (seat_of m)
    → before' ≡ before ++ record { mark = m; end = end; row = row } ∷ []
    → shapes_from slots before (m ∷ ms) ≡ shapes_from slots' before' ms
one_more slots slots' before before' m ms p end row count of_end of_row of_slots of_before =
    let ends : end ≡ end_from m (length before + 1) ms = of_end ∙ ap (λ (n : ℕ). end_from m (n + 1) ms) (sym count) in
    sym (
    ap (λ (ss : List Slot). shapes_from ss before' ms) of_slots
    ∙ ap (λ (xs : List Shape). shapes_from (slots_after slots (length before) end (seat_of m)) xs ms) of_before
    ∙ ap (λ (n : ℕ). shapes_from (slots_after slots (length before) end (seat_of m)) (before ++ record { mark = m; end = end; row = n } ∷ []) ms) of_row
    ∙ ap (λ (n : ℕ). shapes_from (slots_after slots (length before) n (seat_of m)) (before ++ record { mark = m; end = n; row = row_at slots before (seat_of m) } ∷ []) ms) ends
    )

pub few_after : (slots : List Slot) (p q : ℕ) (s : Seat) → length (slots_after slots p q s) ≤ length slots + 1
few_after slots p q (seat.Own t) = few_taken t p q slots
few_after slots p q (seat.Beside birth) = omega arith
few_after slots p q seat.Nowhere = omega arith

pub shapes : (ms : List Mark) → shapes_of ms ≡ shapes_from [] [] ms
unfolding shapes_of
shapes ms = refl

-- one turn of the loop
pub turn : (slots slots' : List Slot) (before here before' done : List Shape) (marks : List Mark) (m : Mark) (ms : List Mark) (s : Seat) (p end row : ℕ)
    → drop p marks ≡ m ∷ ms → length before ≡ p → end ≡ end_from m (p + 1) ms → here ≡ before → s ≡ seat_of m → row ≡ row_at slots here s
    → slots' ≡ slots_after slots (length here) end s → before' ≡ before ++ record { mark = m; end = end; row = row } ∷ []
    → shapes_from slots before (drop p marks) ≡ done → shapes_from slots' before' ms ≡ done
turn slots slots' before here before' done marks m ms s p end row parts count of_end same of_seat of_row of_slots of_before so =
    sym (
    one_more slots slots' before before' m ms p end row count of_end (of_row ∙ (λ i. row_at slots (same i) (of_seat i)))
    (of_slots ∙ (λ i. slots_after slots (length (same i)) end (of_seat i))) of_before
    )
    ∙ ap (shapes_from slots before) (sym parts) ∙ so

pub longer : (xs ys : List Shape) (x : Shape) → ys ≡ xs ++ x ∷ [] → length ys ≡ length xs + 1
longer xs ys x e = ap length e ∙ length_push xs x
