-- A list whose places were written each by itself.
use Rattle.std.proofs.Common.{◌≡◌, ℕ, ◌<◌, ◌++◌, ap, sym, ◌∙◌, subst, List, length, take, get_or, arith}
use Rattle.std.specs.Prelude.{slice_get, Some}
use Rattle.std.proofs.lemmas.Option.{slice_get_within, slice_get-get_or, get_or_from_slice_get}
use Rattle.std.proofs.lemmas.List.{take-append-le, take_all}

module _ {S : Type 0} where
  pub written : (n : ℕ) (xs ys : List S) → length xs ≡ n → take n (xs ++ ys) ≡ xs
  written n xs ys e = take-append-le n xs ys (omega (arith, e)) ∙ take_all n xs (omega (arith, e))

  -- what is known of each place is known of what stands there
  pub in_order : (Of : S → Type 0) (number : S → ℕ) (n : ℕ) (old new rest : List S) → length new ≡ n → length new ≡ length old
      → ((i : ℕ) (p : S) → slice_get old i ≡ Some p → number p ≡ i)
      → ((i : ℕ) (d : S) → i < length old → Of (get_or new i d) × (number (get_or new i d) ≡ number (get_or old i d)))
      → (i : ℕ) (p : S) → slice_get (take n (new ++ rest)) i ≡ Some p → Of p × (number p ≡ i)
  in_order Of number n old new rest len same numbered each i p at =
      let here : slice_get new i ≡ Some p = ap (λ xs. slice_get xs i) (sym (written n new rest len)) ∙ at in
      let within = slice_get_within new i p here in
      let low : i < length old = omega (arith, within, same) in
      let is : get_or new i p ≡ p = get_or_from_slice_get new i p p here in
      let e = each i p low in
      (subst Of is e.0, ap number (sym is) ∙ (e.1 ∙ numbered i (get_or old i p) (slice_get-get_or old i p low)))
