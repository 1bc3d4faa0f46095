-- Where no edge is near a stack of a signature in another bucket, no cover uses an edge of this one.
use Rattle.std.proofs.Common.{◌≡◌, ℕ, false, ap, sym, ◌∙◌, inl, inr, List, [], ◌∷◌, ◌++◌, take}
use Rattle.std.specs.Prelude.{Some, None}
use Rattle.std.proofs.lemmas.Bool.{cases_Bool}
use Rattle.dim_stack.specs.declared.Frame.{Frame}
use Rattle.dim_rag.specs.declared.entry.Edge.{Edge}
use Rattle.dim_signature.specs.Sig.{Sig}
use Rattle.dim_cover.specs.declared.shelf.ShelfPlace.{ShelfPlace}
use Rattle.dim_cover.specs.Cover.{agrees}
use Rattle.dim_cover.specs.Named.{cover_births}
use Rattle.dim_cover.specs.Index.{counted, pair}
use Rattle.dim_cover.specs.Best.{HasCoverIn}
use Rattle.dim_cover.specs.Shelf.{HasOther, IsOther, bucket}
use Rattle.dim_cover.proofs.Fronts.{none_agree, none_by_pair}
use Rattle.dim_cover.proofs.Groups.{same_frames}
use Rattle.dim_cover.proofs.Lacking.{lacking}
use Rattle.dim_cover.proofs.Switched.{on_some}

module _ (es : List Edge) (new : Edge) where
  -- an edge of this bucket agrees with no stack of another
  apart_agrees : (d b : ℕ) (s : List Frame) → bucket (take d new.stack) ≡ b → (bucket (take d s) ≡ b → ⊥) → agrees d s new ≡ false
  apart_agrees d b s here apart = elim (cases_Bool (agrees d s new)) [
    | inl a ↦ absurd (apart (ap (λ (f : List Frame). bucket f) (sym (same_frames (take d new.stack) (take d s) a)) ∙ here))
    | inr a ↦ a
  ]

  -- so where no edge is near such a stack, there is no cover
  none_with : (s : Sig) (b other : ℕ) → IsOther s b other → counted pair other es ≡ 0 → bucket (take s.depth new.stack) ≡ b → cover_births (es ++ new ∷ []) new.birth s ≡ None
  none_with s b other w none here =
      let counted_none : counted pair (pair w.stack) es ≡ 0 = ap (λ n. counted pair n es) w.pair_is ∙ none in
      lacking (es ++ new ∷ []) new.birth s w.place w.stack w.at (none_agree s.depth w.stack es new (none_by_pair s.depth w.stack es w.deep counted_none) (apart_agrees s.depth b w.stack here w.apart))

  -- so the signature of a place that tells such a stack has no cover in its bucket
  pub no_other : (sigs : List Sig) (x : ShelfPlace) → HasOther sigs x → counted pair x.other es ≡ 0 → HasCoverIn es new sigs x.bucket x.sig → ⊥
  no_other sigs x w none h =
      let same : h.cover.sig ≡ w.sig = (let j : Some h.cover.sig ≡ Some w.sig = sym h.cover.sig_is ∙ w.sig_is in cc) in
      let here : bucket (take w.sig.depth new.stack) ≡ x.bucket = ap (λ (s : Sig). bucket (take s.depth new.stack)) (sym same) ∙ h.bucket_is in
      let named : cover_births (es ++ new ∷ []) new.birth h.cover.sig ≡ Some h.cover.births = (on_some (es ++ new ∷ []) new.birth h.cover.sig h.cover.births h.cover.cover_is).1 in
      let j : None ≡ Some h.cover.births = sym (none_with w.sig x.bucket x.other w.other none here) ∙ ap (cover_births (es ++ new ∷ []) new.birth) (sym same) ∙ named in cc
