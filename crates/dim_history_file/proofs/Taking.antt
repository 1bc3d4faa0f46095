-- What the reader keeps by numbers, and what it has read by names.
use Rattle.std.proofs.Common.{◌≡◌, ◌<◌, ◌-◌, ℕ, inl, inr, false, List, [], ◌∷◌, ◌++◌, length, map, Option, Some, None, Result, Ok, Err, All, arith, refl, sym, ap, ◌∙◌, subst, suc}
use Rattle.std.specs.Prelude.{◌==◌, slice_get, option_map, OnOk}
use Rattle.std.specs.List.{list_any}
use Rattle.std.specs.Ordering.{is_lt}
use Rattle.std.proofs.lemmas.Bool.{cond-true, cond-false, eq-eqb, ne_eqb}
use Rattle.std.proofs.lemmas.List.{length-map, map_push}
use Rattle.std.proofs.lemmas.List.Elements.{All-push}
use Rattle.std.proofs.lemmas.Option.{slice_get-map, slice_get_within, get_or_from_slice_get}
use Rattle.dim_text.specs.Reading.{in_line, Fails, Leaves}
use Rattle.dim_text.specs.Stops.{kind_of}
use Rattle.dim_text.proofs.Exports.{chosen}
use Rattle.dim_stack.specs.declared.Frame.{Frame}
use Rattle.dim_stack.specs.Names.{AreAscending, IsNamedBy}
use Rattle.dim_signature.specs.Sig.{Sig}
use Rattle.dim_signature.specs.Sorted.{AreSorted, stack_cmp}
use Rattle.dim_signature.specs.Catalogue.{has_stacks}
use Rattle.dim_history_file.specs.declared.fault.FileKind.{FileKind}
use Rattle.dim_history_file.specs.declared.fault.FileKind.TheVariants.{Double}
use Rattle.dim_text.specs.declared.stop.Stop.{Stop}
use Rattle.dim_text.specs.declared.stop.Stop.TheVariants as stop
use Rattle.dim_history_file.specs.declared.opening.Opening.{Opening}
use Rattle.dim_history_file.specs.declared.version.Version.{Version}
use Rattle.dim_history_file.specs.Faults.{fault, fault_of, at_line}
use Rattle.dim_history_file.specs.Value.{NamedFrame, NamedSig, named_stack, named_sig, named, AreNamed, stack_order, have_stacks}
use Rattle.dim_history_file.specs.Judging.{Begun, Due, Within, State, stack_of, is_less_than_last, signature_with, with_signature, with_stack, stack_line}
use Rattle.dim_history_file.specs.Signing.{entered}
use Rattle.dim_history_file.specs.Reader.{begun}
use Rattle.dim_history_file.specs.Grammar.{AreInOrder}
use Rattle.dim_history_file.proofs.Comparing.{order_named, have_named, sorted_named}
use Rattle.dim_history_file.proofs.Moving.{in_order-push}

-- ---- the last stack
less_is : (s : List NamedFrame) (xs : List (List NamedFrame)) (x : List NamedFrame) → slice_get xs (length xs - 1) ≡ Some x → is_less_than_last s xs ≡ is_lt (stack_order s x)
less_is s [] x e = cc (e)
less_is s (y ∷ []) x e = let same : y ≡ x = cc (e) in ap (λ z. is_lt (stack_order s z)) same
less_is s (y ∷ z ∷ zs) x e =
    let longer : suc (suc (length zs)) - 1 ≡ suc (suc (length zs) - 1) = omega arith in
    less_is s (z ∷ zs) x (sym (ap (slice_get (y ∷ z ∷ zs)) longer) ∙ e)

pub all_place : {X : Type 0} (P : X → Type 0) (xs : List X) (n : ℕ) (x : X) → slice_get xs n ≡ Some x → All P xs → P x
all_place P xs n x e h = subst P (get_or_from_slice_get xs n x x e) (h n x (slice_get_within xs n x e))

pub less_named : (names : List (List ℕ)) → AreAscending names → (s : List Frame) (xs : List (List Frame)) (x : List Frame) → slice_get xs (length xs - 1) ≡ Some x → IsNamedBy names s → All (IsNamedBy names) xs
    → is_less_than_last (named_stack names s) (map (named_stack names) xs) ≡ is_lt (stack_cmp s x)
less_named names up s xs x e p q =
    let f = named_stack names in
    less_is (f s) (map f xs) (f x) (ap (λ n. slice_get (map f xs) (n - 1)) (length-map xs f) ∙ slice_get-map f xs (length xs - 1) ∙ ap (option_map f) e)
    ∙ ap is_lt (sym (order_named names up s x p (all_place (IsNamedBy names) xs (length xs - 1) x e q)))

-- ---- a signature that was entered
module _ (version : Version) (names : List (List ℕ)) (up : AreAscending names) (sigs : List Sig) (s : Sig) (p : AreNamed names sigs) (q : All (IsNamedBy names) s.stacks) where
  abbrev whole : NamedSig
  whole = named_sig names s

  have : list_any (has_stacks s.stacks) sigs ≡ have_stacks (named names sigs) whole.stacks
  have = have_named names up sigs s.stacks p q

  pub entered_ok : (new : List Sig) → entered sigs s ≡ Ok new → with_signature version (named names sigs) whole ≡ Ok (record { version = version; stage = Due; sigs = named names new })
  entered_ok new e =
      elim (chosen (list_any (has_stacks s.stacks) sigs) _ _ _ e) [
        | inl known ↦ cc (known.1)
        | inr other ↦
            let same : sigs ++ s ∷ [] ≡ new = cc (other.1) in
            cond-false (have_stacks (named names sigs) whole.stacks) (Err Double) (Ok (record { version = version; stage = Due; sigs = named names sigs ++ whole ∷ [] })) (sym have ∙ other.0)
            ∙ ap (λ ss. let t : State = record { version = version; stage = Due; sigs = ss } in Ok t) (sym (map_push (named_sig names) sigs s) ∙ ap (named names) same)
      ]

  pub entered_fails : (o : Option FileKind) → Fails o (entered sigs s) → Fails o (with_signature version (named names sigs) whole)
  entered_fails None h = tt
  entered_fails (Some k) h =
      elim (chosen (list_any (has_stacks s.stacks) sigs) _ _ _ h) [
        | inl known ↦
            cond-true (have_stacks (named names sigs) whole.stacks) (Err Double) (Ok (record { version = version; stage = Due; sigs = named names sigs ++ whole ∷ [] })) (sym have ∙ known.0)
            ∙ (let same : Double ≡ k = cc (known.1) in ap (λ x. Err x) same)
        | inr other ↦ cc (other.1)
      ]

  pub entered_named : (new : List Sig) → entered sigs s ≡ Ok new → AreNamed names new
  entered_named new e =
      elim (chosen (list_any (has_stacks s.stacks) sigs) _ _ _ e) [
        | inl known ↦ cc (known.1)
        | inr other ↦
            let same : sigs ++ s ∷ [] ≡ new = cc (other.1) in
            subst (AreNamed names) same (All-push (λ (t : Sig). All (IsNamedBy names) t.stacks) sigs s p q)
      ]

  -- what entering it leaves
  pub entered_leaves : (new : List Sig) (r : Result (Unit {0}) (Stop FileKind)) → Leaves kind_of new r (entered sigs s) → Leaves kind_of (let t : State = record { version = version; stage = Due; sigs = named names new } in t) r (with_signature version (named names sigs) whole)
  entered_leaves new (Ok u) h = entered_ok new h
  entered_leaves new (Err e) h = entered_fails (kind_of e) h

  pub entered_keeps : (new : List Sig) (r : Result (Unit {0}) (Stop FileKind)) → Leaves kind_of new r (entered sigs s) → OnOk r (AreNamed names new)
  entered_keeps new (Ok u) h = entered_named new h
  entered_keeps new (Err e) h = tt

-- ---- a stack line
with_last : (version : Version) (sigs : List NamedSig) (b : Begun) (stacks : List (List NamedFrame)) → length stacks ≡ b.opening.count → with_stack version sigs b stacks ≡ with_signature version sigs (signature_with b.opening stacks)
with_last version sigs b stacks e = cond-true (length stacks == b.opening.count) _ _ (eq-eqb (length stacks) b.opening.count e)

with_more : (version : Version) (sigs : List NamedSig) (b : Begun) (stacks : List (List NamedFrame)) → (length stacks ≡ b.opening.count → ⊥)
    → with_stack version sigs b stacks ≡ Ok (record { version = version; stage = Within (record b { stacks = stacks }); sigs = sigs })
with_more version sigs b stacks e = cond-false (length stacks == b.opening.count) _ _ (ne_eqb (length stacks) b.opening.count e)

line_is : (version : Version) (sigs : List NamedSig) (b : Begun) (words : List (List ℕ)) (stack : List NamedFrame) → stack_of words ≡ Ok stack → is_less_than_last stack b.stacks ≡ false
    → stack_line version sigs b words ≡ with_stack version sigs b (b.stacks ++ stack ∷ [])
unfolding stack_line
line_is version sigs b words stack e f = rw (e, f) refl

-- a stack behind those that were read
module _ (version : Version) (names : List (List ℕ)) (sigs : List NamedSig) (o : Opening) (old new : List (List Frame)) (stack : List Frame) (words : List (List ℕ))
    (is : stack_of words ≡ Ok (named_stack names stack)) (after : is_less_than_last (named_stack names stack) (map (named_stack names) old) ≡ false) (more : new ≡ old ++ stack ∷ []) where
  abbrev f : List Frame → List NamedFrame
  f = named_stack names

  abbrev b : Begun
  b = begun names o old

  items : map f new ≡ map f old ++ f stack ∷ []
  items = ap (map f) more ∙ map_push f old stack

  size : length (map f new) ≡ length new
  size = length-map new f

  said : stack_line version sigs b words ≡ with_stack version sigs b (map f new)
  said = line_is version sigs b words (f stack) is after ∙ ap (with_stack version sigs b) (sym items)

  pub stack_goes_on : length new < o.count → stack_line version sigs (begun names o old) words ≡ Ok (record { version = version; stage = Within (begun names o new); sigs = sigs })
  stack_goes_on h = said ∙ with_more version sigs b (map f new) (λ e. omega (arith, h, size, e))

  pub stack_is_last : length new ≡ o.count → stack_line version sigs (begun names o old) words ≡ with_signature version sigs (signature_with o (map (named_stack names) new))
  stack_is_last h = said ∙ with_last version sigs b (map f new) (size ∙ h)

  pub stacks_stay_sorted : AreAscending names → All (IsNamedBy names) old → IsNamedBy names stack → AreInOrder (map (named_stack names) old) → AreSorted new
  stacks_stay_sorted up named one sorted =
      sorted_named names up new (subst (All (IsNamedBy names)) (sym more) (All-push (IsNamedBy names) old stack named one)) (subst AreInOrder (sym items) (in_order-push (map f old) (f stack) sorted after))

-- ---- the line of an error
pub leaves_line : (n : ℕ) (s : State) (r : Result (Unit {0}) (Stop FileKind)) (right : Result State FileKind) → Leaves kind_of s r right → Leaves fault_of s (at_line n r) (in_line fault n right)
leaves_line n s (Ok u) right h = ap (in_line fault n) h
leaves_line n s (Err stop.OutOfMemory) right h = tt
leaves_line n s (Err (stop.Bad k)) right h = ap (in_line fault n) h
