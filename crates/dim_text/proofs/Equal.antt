-- Words that are compared byte by byte.
use Rattle.std.proofs.Common.{◌≡◌, ℕ, ◌<◌, true, sym, arith, List, length}
use Rattle.std.specs.Str.{bytes_eq}
use Rattle.std.proofs.Math.ListN.{get_or}
use Rattle.std.proofs.lemmas.List.{ext_get_or}
use Rattle.std.proofs.lemmas.Slice.Eq.{bytes_eq-Decides}

-- words that are equal at each place are equal
pub equal_words : (a b : List ℕ) (n : ℕ) → length a ≡ length b → length a ≡ n → ((i : ℕ) → i < n → get_or a i 0 ≡ get_or b i 0)
    → true ≡ bytes_eq a b
equal_words a b n same all each = sym ((bytes_eq-Decides a b).1 (ext_get_or 0 a b same (λ i lt. each i (omega (arith, lt, all)))))
