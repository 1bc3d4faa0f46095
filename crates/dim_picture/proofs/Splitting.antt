-- A list of entries, oldest first, against the history with its newest entry first.
use Rattle.std.proofs.Common.{◌≡◌, ℕ, ◌+◌, ◌≤◌, ap, sym, ◌∙◌, List, [], ◌∷◌, ◌++◌, length, take, drop, reverse, append_assoc}
use Rattle.std.specs.Prelude.{Some, slice_get}
use Rattle.std.proofs.lemmas.List.{take-append-drop, drop_more, reverse-append, length-reverse, length-take-le}
use Rattle.std.proofs.lemmas.Option.{slice_get_within, get_or_from_slice_get}
use Rattle.dim_rag.specs.declared.entry.Entry.{Entry}
use Rattle.dim_rag.specs.History.{past}
use Rattle.dim_rag.specs.Places.{before}

module _ (xs : List Entry) (q : ℕ) (e : Entry) (here : slice_get xs q ≡ Some e) where
  -- the list around a place
  around : xs ≡ take q xs ++ e ∷ drop (q + 1) xs
  around =
      sym (take-append-drop q xs)
      ∙ ap (λ ys. take q xs ++ ys) (drop_more xs q e (slice_get_within xs q e here) ∙ ap (λ y. y ∷ drop (q + 1) xs) (get_or_from_slice_get xs q e e here))

  -- the history around a place
  pub split : past xs ≡ reverse (drop (q + 1) xs) ++ (e ∷ before q xs)
  split =
      ap past around ∙ reverse-append (take q xs) (e ∷ drop (q + 1) xs)
      ∙ ap (λ ys. ys ++ before q xs) (reverse-append (e ∷ []) (drop (q + 1) xs))
      ∙ append_assoc (reverse (drop (q + 1) xs)) (e ∷ []) (before q xs)

pub before_length : (xs : List Entry) (q : ℕ) → q ≤ length xs → length (before q xs) ≡ q
before_length xs q low = length-reverse (take q xs) ∙ length-take-le q xs low
