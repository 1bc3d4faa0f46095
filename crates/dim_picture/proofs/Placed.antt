-- The shapes of entries, by places.
use Rattle.std.proofs.Common.{◌≡◌, ℕ, zero, suc, ◌+◌, ◌-◌, ◌<◌, ◌≤◌, refl, ap, sym, ◌∙◌, subst, arith, true, false, inl, inr, List, [], ◌∷◌, ◌++◌, length, drop, reverse, append_assoc, append-nil}
use Rattle.std.specs.Prelude.{Some, slice_get, unwrap_or}
use Rattle.std.proofs.lemmas.Bool.{cases_Bool}
use Rattle.std.proofs.lemmas.List.{length-reverse, length_push}
use Rattle.std.proofs.lemmas.Option.{slice_get_within}
use Rattle.dim_rag.specs.declared.entry.Entry.{Entry}
use Rattle.dim_rag.specs.History.{past}
use Rattle.dim_rag.specs.Places.{before}
use Rattle.dim_picture.specs.declared.mark.Mark.{Mark}
use Rattle.dim_picture.specs.declared.rows.Slot.{Slot}
use Rattle.dim_picture.specs.declared.shape.Shape.{Shape}
use Rattle.dim_picture.specs.Marks.{mark_of, marks}
use Rattle.dim_picture.specs.Shapes.{closes, end_from, shape_of, shapes_from, slots_after, seat_of}
use Rattle.dim_picture.specs.Places.{IsMarkAt, IsEnd, IsShapeAt, AreShapes, ShapesLaw}
use Rattle.dim_picture.proofs.Noted.{marks_length}
use Rattle.dim_picture.proofs.ShapeSteps.{shapes}
use Rattle.dim_picture.proofs.Splitting.{split, before_length}

-- ---- lists

get_left : {X : Type 0} (xs ys : List X) (i : ℕ) → i < length xs → slice_get (xs ++ ys) i ≡ slice_get xs i
get_left [] ys i low = absurd (omega (arith, low))
get_left (x ∷ xs) ys zero low = refl
get_left (x ∷ xs) ys (suc i) low = get_left xs ys i (omega (arith, low))

get_right : {X : Type 0} (xs ys : List X) (i n : ℕ) → n ≡ length xs + i → slice_get (xs ++ ys) n ≡ slice_get ys i
get_right [] ys i n e = ap (slice_get ys) (let same : n ≡ i = omega (arith, e) in same)
get_right (x ∷ xs) ys i zero e = absurd (omega (arith, e))
get_right (x ∷ xs) ys i (suc n) e = get_right xs ys i n (omega (arith, e))

-- ---- marks

marks_more : (newer h : List Entry) → (more : List Mark) × (marks (newer ++ h) ≡ marks h ++ more)
marks_more [] h = ([], sym (append-nil (marks h)))
marks_more (e ∷ newer) h =
    let w = marks_more newer h in
    (w.0 ++ mark_of (newer ++ h) e ∷ [], ap (λ ms. ms ++ mark_of (newer ++ h) e ∷ []) w.1 ∙ append_assoc (marks h) w.0 (mark_of (newer ++ h) e ∷ []))

-- the mark at a place is that of the entry there
pub mark_there : (entries : List Entry) (p : ℕ) (e : Entry) → slice_get entries p ≡ Some e → slice_get (marks (past entries)) p ≡ Some (mark_of (before p entries) e)
mark_there entries p e here =
    let h = before p entries in
    let m = mark_of h e in
    let w = marks_more (reverse (drop (p + 1) entries)) (e ∷ h) in
    let count : length (marks h) ≡ p = marks_length h ∙ before_length entries p (let low = slice_get_within entries p e here in omega (arith, low)) in
    let all : marks (past entries) ≡ marks h ++ (m ∷ w.0) = ap marks (split entries p e here) ∙ w.1 ∙ append_assoc (marks h) (m ∷ []) w.0 in
    ap (λ ms. slice_get ms p) all ∙ get_right (marks h) (m ∷ w.0) 0 p (omega (arith, count))

-- what stands among the marks at a place is what the entry there is
there_mark : (entries : List Entry) (p : ℕ) (m : Mark) → IsMarkAt entries p m → slice_get (marks (past entries)) p ≡ Some m
there_mark entries p m k = mark_there entries p k.0 k.1 ∙ ap (λ (x : Mark). Some x) (sym k.2)

-- ---- ends

pub record Ends (ms : List Mark) (m : Mark) (p q : ℕ) : Type 0 where
  pub low : p ≤ q
  pub within : q ≤ p + length ms
  pub closed : (i : ℕ) (n : Mark) → p + i ≡ q → slice_get ms i ≡ Some n → closes m n ≡ true
  pub first : (i : ℕ) (n : Mark) → p + i < q → slice_get ms i ≡ Some n → closes m n ≡ false

some_same : {X : Type 0} (x y : X) → Some x ≡ Some y → x ≡ y
some_same x y e = ap (λ o. unwrap_or o x) e

ends : (m : Mark) (p : ℕ) (ms : List Mark) → Ends ms m p (end_from m p ms)
ends m p [] = record {
  low = omega arith;
  within = omega arith;
  closed = λ i n e there. absurd (let z = slice_get_within {A = Mark} [] i n there in omega (arith, z));
  first = λ i n less there. absurd (omega (arith, less));
}
ends m p (n ∷ ns) = elim (cases_Bool (closes m n)) [
  | inl y ↦ rw y record {
    low = omega arith;
    within = omega arith;
    closed = λ i x e there. closed_here i x e there y;
    first = λ i x less there. absurd (omega (arith, less));
  }
  | inr z ↦ rw z (let k = ends m (p + 1) ns in record {
    low = let l = k.low in omega (arith, l);
    within = let l = k.within in omega (arith, l);
    closed = λ i x e there. closed_later k i x e there;
    first = λ i x less there. first_later k z i x less there;
  })
] where
  closed_here : (i : ℕ) (x : Mark) → p + i ≡ p → slice_get (n ∷ ns) i ≡ Some x → closes m n ≡ true → closes m x ≡ true
  closed_here zero x e there y = ap (closes m) (sym (some_same n x there)) ∙ y
  closed_here (suc i) x e there y = absurd (omega (arith, e))

  closed_later : Ends ns m (p + 1) (end_from m (p + 1) ns) → (i : ℕ) (x : Mark) → p + i ≡ end_from m (p + 1) ns → slice_get (n ∷ ns) i ≡ Some x → closes m x ≡ true
  closed_later k zero x e there = absurd (let l = k.low in omega (arith, l, e))
  closed_later k (suc i) x e there = k.closed i x (omega (arith, e)) there

  first_later : Ends ns m (p + 1) (end_from m (p + 1) ns) → closes m n ≡ false → (i : ℕ) (x : Mark) → p + i < end_from m (p + 1) ns → slice_get (n ∷ ns) i ≡ Some x → closes m x ≡ false
  first_later k z zero x less there = ap (closes m) (sym (some_same n x there)) ∙ z
  first_later k z (suc i) x less there = k.first i x (omega (arith, less)) there

-- ---- shapes

kept : (slots : List Slot) (before_here : List Shape) (ms : List Mark) (j : ℕ) → j < length before_here → slice_get (shapes_from slots before_here ms) j ≡ slice_get before_here j
kept slots xs [] j low = refl
kept slots xs (m ∷ ms) j low =
    let s = shape_of slots xs m ms in
    kept (slots_after slots (length xs) (end_from m (length xs + 1) ms) (seat_of m)) (xs ++ s ∷ []) ms j (let n = length_push xs s in omega (arith, n, low))
    ∙ get_left xs (s ∷ []) j low

as_many : (slots : List Slot) (xs : List Shape) (ms : List Mark) → length (shapes_from slots xs ms) ≡ length xs + length ms
as_many slots xs [] = omega arith
as_many slots xs (m ∷ ms) =
    let s = shape_of slots xs m ms in
    let all = as_many (slots_after slots (length xs) (end_from m (length xs + 1) ms) (seat_of m)) (xs ++ s ∷ []) ms in
    let n = length_push xs s in
    all ∙ omega (arith, n)

record IsShapeOf (shapes_here : List Shape) (at : ℕ) (m : Mark) (ms : List Mark) : Type 0 where
  shape : Shape
  there : slice_get shapes_here at ≡ Some shape
  mark_is : shape.mark ≡ m
  end_is : shape.end ≡ end_from m (at + 1) ms

last_at : (xs : List Shape) (s : Shape) (n : ℕ) → n ≡ length xs → slice_get (xs ++ s ∷ []) n ≡ Some s
last_at xs s n e = get_right xs (s ∷ []) 0 n (omega (arith, e))

shape_at : (slots : List Slot) (xs : List Shape) (ms : List Mark) (i at : ℕ) (m : Mark) → at ≡ length xs + i → slice_get ms i ≡ Some m → IsShapeOf (shapes_from slots xs ms) at m (drop (suc i) ms)
shape_at slots xs [] i at m e there = absurd (let z = slice_get_within {A = Mark} [] i m there in omega (arith, z))
shape_at slots xs (n ∷ ms) zero at m e there =
    let s = shape_of slots xs n ms in
    let here : at ≡ length xs = omega (arith, e) in
    let low : at < length (xs ++ s ∷ []) = (let z = length_push xs s in omega (arith, z, here)) in
    let same = some_same n m there in
    record {
      shape = s;
      there = kept (slots_after slots (length xs) (end_from n (length xs + 1) ms) (seat_of n)) (xs ++ s ∷ []) ms at low ∙ last_at xs s at here;
      mark_is = same;
      end_is = ap (λ (x : Mark). end_from x (length xs + 1) ms) same ∙ ap (λ (p : ℕ). end_from m (p + 1) ms) (sym here);
    }
shape_at slots xs (n ∷ ms) (suc i) at m e there =
    let s = shape_of slots xs n ms in
    shape_at (slots_after slots (length xs) (end_from n (length xs + 1) ms) (seat_of n)) (xs ++ s ∷ []) ms i at m (let z = length_push xs s in omega (arith, z, e)) there

-- ---- by places

drop_get : {X : Type 0} (xs : List X) (k i n : ℕ) → n ≡ k + i → slice_get (drop k xs) i ≡ slice_get xs n
drop_get xs zero i n e = ap (slice_get xs) (let same : i ≡ n = omega (arith, e) in same)
drop_get [] (suc k) i n e = refl
drop_get (x ∷ xs) (suc k) i zero e = absurd (omega (arith, e))
drop_get (x ∷ xs) (suc k) i (suc n) e = drop_get xs k i n (omega (arith, e))

module _ (entries : List Entry) where
  abbrev ms : List Mark
  ms = marks (past entries)

  ms_count : length ms ≡ length entries
  ms_count = marks_length (past entries) ∙ length-reverse entries

  behind_mark : (p r : ℕ) (n : Mark) → p < r → IsMarkAt entries r n → (i : ℕ) × (p + 1 + i ≡ r) × (slice_get (drop (suc p) ms) i ≡ Some n)
  behind_mark p r n less k =
      let i = r - (p + 1) in
      let at : p + 1 + i ≡ r = omega (arith, less) in
      (i, at, drop_get ms (suc p) i r (omega (arith, at)) ∙ there_mark entries r n k)

  ends_at : (p : ℕ) (m : Mark) → p < length entries → IsEnd entries p m (end_from m (p + 1) (drop (suc p) ms))
  ends_at p m low =
      let k = ends m (p + 1) (drop (suc p) ms) in
      let l = k.low in
      let w = k.within in
      let n = Rattle.std.proofs.lemmas.List.length-drop (suc p) ms in
      record {
        behind = omega (arith, l);
        within = omega (arith, w, n, ms_count, low);
        closed = λ x at. let b = behind_mark p (end_from m (p + 1) (drop (suc p) ms)) x (omega (arith, l)) at in k.closed b.0 x b.1 b.2;
        first = λ r x less lower at. let b = behind_mark p r x less at in k.first b.0 x (let e = b.1 in omega (arith, e, lower)) b.2;
      }

  entry_at : (p : ℕ) → p < length entries → (e : Entry) × (slice_get entries p ≡ Some e)
  entry_at p low = elim (Rattle.std.proofs.lemmas.Option.slice_get_cases entries p).1 [
    | inl k ↦ (k.0, k.2)
    | inr n ↦ absurd (let z = n.0 in omega (arith, z, low))
  ]

  pub each_shape : (p : ℕ) (s : Shape) → slice_get (shapes_from [] [] ms) p ≡ Some s → IsShapeAt entries p s
  each_shape p s there =
      let within = slice_get_within (shapes_from [] [] ms) p s there in
      let count = as_many [] [] ms in
      let low : p < length entries = omega (arith, within, count, ms_count) in
      let w = entry_at p low in
      let m = mark_of (before p entries) w.0 in
      let k = shape_at [] [] ms p p m (omega arith) (mark_there entries p w.0 w.1) in
      let same : k.shape ≡ s = some_same k.shape s (sym k.there ∙ there) in
      let mark_is : s.mark ≡ m = ap (λ (x : Shape). x.mark) (sym same) ∙ k.mark_is in
      let end_is : s.end ≡ end_from m (p + 1) (drop (suc p) ms) = ap (λ (x : Shape). x.end) (sym same) ∙ k.end_is in
      record {
        mark = (w.0, w.1, mark_is);
        end = subst (IsEnd entries p s.mark) (sym end_is) (subst (λ (x : Mark). IsEnd entries p x (end_from m (p + 1) (drop (suc p) ms))) (sym mark_is) (ends_at p m low));
      }

pub shapes_law : ShapesLaw
shapes_law entries = subst (AreShapes entries) (sym (shapes (marks (past entries)))) record {
  count = as_many [] [] (marks (past entries)) ∙ (let n = ms_count entries in omega (arith, n));
  each = each_shape entries;
}
