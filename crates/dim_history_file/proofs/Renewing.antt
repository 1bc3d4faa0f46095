-- A signature in another table has stacks that none before it has.
use Rattle.std.proofs.Common.{◌≡◌, ◌<◌, ◌≤◌, ◌∷◌, ◌++◌, [], ℕ, inl, inr, Bool, false, ltb, List, length, take, Option, Some, None, All, refl, sym, ap, ap₂, ◌∙◌, subst, arith}
use Rattle.std.specs.Prelude.{position, slice_get}
use Rattle.std.specs.List.{list_any, position_or_len}
use Rattle.std.proofs.lemmas.Bool.{cases_Bool, false≢true, cond-true, cond-false, lt-ltb}
use Rattle.std.proofs.lemmas.List.{length-map, length-take-le, get_or-take}
use Rattle.std.proofs.lemmas.List.Elements.{All-take}
use Rattle.std.proofs.lemmas.List.Folds.{list_any_none}
use Rattle.std.proofs.lemmas.List.Sums.{fails_before_first}
use Rattle.std.proofs.lemmas.Option.{get_or_from_slice_get, slice_get_within}
use Rattle.std.proofs.Math.Seq.{take-append_seam}
use Rattle.dim_stack.specs.declared.Frame.{Frame}
use Rattle.dim_stack.specs.Names.{AreAscending, IsNamedBy}
use Rattle.dim_signature.specs.Sig.{Sig}
use Rattle.dim_signature.specs.Catalogue.{IsCatalogue, has_stacks, signature_number}
use Rattle.dim_signature.specs.Refusal.{refusal_of}
use Rattle.dim_signature.specs.Order.{no_sig}
use Rattle.dim_signature.proofs.Exports.{own}
use Rattle.dim_history_file.specs.Value.{NamedSig, named_sig, named, AreNamed, have_stacks}
use Rattle.dim_history_file.proofs.Comparing.{have_named, any_at}

first_is : {X : Type 0} (p : X → Bool) (xs : List X) (i : ℕ) → position p xs ≡ Some i → position_or_len p xs ≡ i
first_is p xs i e =
    let first = position_or_len p xs in
    elim (cases_Bool (ltb first (length xs))) [
      | inl x ↦ (let f : Some first ≡ Some i = sym (cond-true (ltb first (length xs)) (Some first) None x) ∙ e in cc)
      | inr x ↦ (let f : None ≡ Some i = sym (cond-false (ltb first (length xs)) (Some first) None x) ∙ e in cc)
    ]

none_before : {X : Type 0} (p : X → Bool) (xs : List X) (i : ℕ) → position p xs ≡ Some i → i ≤ length xs → list_any p (take i xs) ≡ false
none_before p xs i e low =
    list_any_none p (take i xs) (λ k d h.
    let before : k < i = omega (arith, h, length-take-le i xs low) in
    ap p (get_or-take i xs k d before) ∙ fails_before_first p xs k d (omega (arith, before, first_is p xs i e)))

nowhere : (sigs : List Sig) (stacks : List (List Frame)) → list_any (has_stacks stacks) sigs ≡ false → signature_number sigs stacks ≡ None
nowhere sigs stacks e = go (signature_number sigs stacks) refl
  where
    go : (o : Option ℕ) → signature_number sigs stacks ≡ o → o ≡ None
    go None f = refl
    go (Some j) f = (let t = any_at (has_stacks stacks) sigs j no_sig f in absurd (false≢true (sym e ∙ t)))

none_refused : (sigs : List Sig) (stacks : List (List Frame)) → signature_number sigs stacks ≡ None → length sigs < 4096 → refusal_of sigs stacks ≡ None
none_refused sigs stacks e few = rw (e, lt-ltb (length sigs) 4096 few) refl

is_new : (from to : List (List ℕ)) → AreAscending from → AreAscending to → (sigs so_far : List Sig) (s t : Sig) (i : ℕ)
    → IsCatalogue sigs → AreNamed from sigs → slice_get sigs i ≡ Some s
    → AreNamed to so_far → named to so_far ≡ named from (take i sigs) → All (IsNamedBy to) t.stacks → named_sig to t ≡ named_sig from s
    → refusal_of so_far t.stacks ≡ None
is_new from to up up2 sigs so_far s t i catalogue known at known2 same one2 alike =
    let within : i < length sigs = slice_get_within sigs i s at in
    let one = subst (λ (x : Sig). All (IsNamedBy from) x.stacks) (get_or_from_slice_get sigs i s no_sig at) (known i no_sig within) in
    let before = none_before (has_stacks s.stacks) sigs i (own sigs catalogue i s at) (omega (arith, within)) in
    let none : list_any (has_stacks t.stacks) so_far ≡ false =
    have_named to up2 so_far t.stacks known2 one2
    ∙ ap₂ have_stacks same (ap (λ (x : NamedSig). x.stacks) alike)
    ∙ sym (have_named from up (take i sigs) s.stacks (All-take (λ (x : Sig). All (IsNamedBy from) x.stacks) i sigs known) one)
    ∙ before in
    let size : length so_far ≡ i =
    sym (length-map so_far (named_sig to)) ∙ ap length same ∙ length-map (take i sigs) (named_sig from) ∙ length-take-le i sigs (omega (arith, within)) in
    none_refused so_far t.stacks (nowhere so_far t.stacks none) (omega (arith, size, within, catalogue.few))

at_seam : {X : Type 0} (xs ys : List X) (y : X) → slice_get (xs ++ y ∷ ys) (length xs) ≡ Some y
at_seam [] ys y = refl
at_seam (x ∷ xs) ys y = at_seam xs ys y

-- what is known of the first of those that are left
standing : (sigs done left : List Sig) (s : Sig) → done ++ s ∷ left ≡ sigs → slice_get sigs (length done) ≡ Some s
standing sigs done left s parts = subst (λ (l : List Sig). slice_get l (length done) ≡ Some s) parts (at_seam done left s)

pub next_named : (names : List (List ℕ)) (sigs done left : List Sig) (s : Sig) → done ++ s ∷ left ≡ sigs → AreNamed names sigs → All (IsNamedBy names) s.stacks
next_named names sigs done left s parts known = let at = standing sigs done left s parts in
    subst (λ (x : Sig). All (IsNamedBy names) x.stacks) (get_or_from_slice_get sigs (length done) s no_sig at) (known (length done) no_sig (slice_get_within sigs (length done) s at))

pub is_next : (from to : List (List ℕ)) → AreAscending from → AreAscending to → (sigs done left so_far : List Sig) (s t : Sig) → done ++ s ∷ left ≡ sigs
    → IsCatalogue sigs → AreNamed from sigs
    → AreNamed to so_far → named to so_far ≡ named from done → All (IsNamedBy to) t.stacks → named_sig to t ≡ named_sig from s
    → refusal_of so_far t.stacks ≡ None
is_next from to up up2 sigs done left so_far s t parts catalogue known known2 same one2 alike =
    is_new from to up up2 sigs so_far s t (length done) catalogue known (standing sigs done left s parts) known2
    (same ∙ ap (named from) (sym (take-append_seam done (s ∷ left)) ∙ ap (take (length done)) parts)) one2 alike
