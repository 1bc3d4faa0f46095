-- The lines of depths, with one more.
use Rattle.std.proofs.Common.{◌≡◌, ℕ, zero, suc, ◌+◌, List, [], ◌∷◌, ◌++◌, length, map, take, Some, None, ap, ◌∙◌, arith}
use Rattle.std.specs.Prelude.{Option, option_map, slice_get}
use Rattle.std.specs.List.{zip}
use Rattle.std.proofs.lemmas.List.{length-map}
use Rattle.std.proofs.lemmas.Option.{slice_get-map}
use Rattle.std.proofs.lemmas.Slice.Zip.{length-zip}
use Rattle.dim_signature.specs.Sig.{Sig}
use Rattle.dim_inquiry.specs.Report.{by_number}
use Rattle.dim_commands.specs.Depths.{depth_line}
use Rattle.dim_inquiry.proofs.Exports.{by_number_more}

zip_at : {X Y : Type 0} (xs : List X) (ys : List Y) (i : ℕ) (x : X) (y : Y) → slice_get xs i ≡ Some x → slice_get ys i ≡ Some y → slice_get (zip xs ys) i ≡ Some (x, y)
zip_at [] ys i x y p q = absurd (let e : None ≡ Some x = p in cc)
zip_at (a ∷ xs) [] i x y p q = absurd (let e : None ≡ Some y = q in cc)
zip_at (a ∷ xs) (b ∷ ys) zero x y p q = (let e : Some a ≡ Some x = p in let f : Some b ≡ Some y = q in cc)
zip_at (a ∷ xs) (b ∷ ys) (suc i) x y p q = zip_at xs ys i x y p q

abbrev pub depth_of : Sig → ℕ
depth_of s = s.depth

-- the pairs of which the lines speak
abbrev pub pairs : List Sig → List ℕ → List (ℕ × ℕ)
pairs sigs least = zip (map depth_of sigs) least

pub pairs_count : (sigs : List Sig) (least : List ℕ) → length least ≡ length sigs → length (pairs sigs least) ≡ length sigs
pairs_count sigs least same =
    length-zip (map depth_of sigs) least ∙ omega (arith, same, length-map sigs depth_of)

pub lines_more : (sigs : List Sig) (least : List ℕ) (i : ℕ) (s : Sig) (d : ℕ) → slice_get sigs i ≡ Some s → slice_get least i ≡ Some d
    → by_number depth_line 0 (take (i + 1) (pairs sigs least)) ≡ by_number depth_line 0 (take i (pairs sigs least)) ++ depth_line i (s.depth, d)
lines_more sigs least i s d here there =
    by_number_more depth_line (pairs sigs least) i (s.depth, d)
    (zip_at (map depth_of sigs) least i s.depth d (slice_get-map depth_of sigs i ∙ ap (λ (o : Option Sig). option_map depth_of o) here) there)
