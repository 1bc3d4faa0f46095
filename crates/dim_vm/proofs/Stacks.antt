-- One frame more of the stack of some calls.
use Rattle.std.proofs.Common.{◌≡◌, ℕ, ◌+◌, ◌<◌, List, [], ◌∷◌, ◌++◌, length, take, get_or, ap, ap₂, sym, ◌∙◌}
use Rattle.std.specs.Prelude.{slice_get, Some}
use Rattle.std.proofs.lemmas.List.{take_more}
use Rattle.std.proofs.lemmas.Option.{get_or_from_slice_get, slice_get_within}
use Rattle.dim_stack.specs.declared.Frame.{Frame}

module _ (s : List Frame) (i : ℕ) (f : Frame) (there : slice_get s i ≡ Some f) where
  pub one_more : take (i + 1) s ≡ take i s ++ f ∷ []
  one_more = take_more s i f (slice_get_within s i f there) ∙ ap (λ x. take i s ++ x ∷ []) (get_or_from_slice_get s i f f there)

  -- one that is the same
  pub same_more : (fs : List Frame) (d : Frame) → i < length fs → get_or fs i d ≡ f → take i fs ≡ take i s → take (i + 1) fs ≡ take (i + 1) s
  same_more fs d lt here seen = take_more fs i d lt ∙ ap₂ (λ x y. x ++ y ∷ []) seen here ∙ sym one_more
