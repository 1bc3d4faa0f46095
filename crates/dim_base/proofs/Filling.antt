-- One item more in an array of a fixed size.
use Rattle.std.proofs.Common.{◌≡◌, ℕ, ◌+◌, ◌-◌, ◌<◌, List, [], ◌∷◌, ◌++◌, take, drop, set, ap, sym, ◌∙◌, arith}
use Rattle.std.specs.Prelude.{replicate}
use Rattle.std.proofs.lemmas.List.{take_more_set, drop-set-lt, drop-drop, drop-replicate, length-set}
use Rattle.dim_base.specs.Filled.{IsFilled}

module _ {A : Type 0} (most : ℕ) (blank : A) (len : ℕ) (items : List A) (item : A) (h : IsFilled most blank len items) (room : len < most) where
  pub filled_more : IsFilled most blank (len + 1) (set items len item)
  filled_more = record {
    few = omega (arith, room);
    size = length-set items len item ∙ h.size;
    rest =
        drop-set-lt (len + 1) items len item (omega arith)
        ∙ sym (drop-drop 1 len items)
        ∙ ap (λ r. drop 1 r) h.rest
        ∙ drop-replicate 1 (most - len) blank
        ∙ ap (λ n. replicate n blank) (let e : most - len - 1 ≡ most - (len + 1) = omega arith in e);
  }

  pub seen_more : take (len + 1) (set items len item) ≡ take len items ++ item ∷ []
  seen_more = take_more_set items len item (omega (arith, h.size, room))
