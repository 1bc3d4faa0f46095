-- What is still to be learnt after a Learn.
use Rattle.std.proofs.Common.{◌≡◌, ℕ, ◌+◌, ◌<◌, Bool, true, false, refl, ap, sym, ◌∙◌, subst, inl, inr, arith, List, [], ◌∷◌, ◌++◌, length, map, get_or}
use Rattle.std.specs.Prelude.{Option, Some, None, is_none, if◌then◌else◌}
use Rattle.std.specs.Option.{option_and_then}
use Rattle.std.proofs.lemmas.Bool.{cases_Bool, ltb-true, lt-ltb, and_parts, and_from, false≢true}
use Rattle.std.proofs.lemmas.List.{map-append, length-append, length_push, get_or_append_left}
use Rattle.std.proofs.lemmas.Option.{slice_get_within, get_or_from_slice_get}
use Rattle.std.proofs.Math.Seq.{get_or-append_seam}
use Rattle.dim_stack.specs.declared.Frame.{Frame}
use Rattle.dim_rag.specs.declared.entry.Entry.{Entry}
use Rattle.dim_rag.specs.declared.entry.Entry.TheVariants.{Learn}
use Rattle.dim_rag.specs.Stuck.{choice}
use Rattle.dim_rag.specs.Starvation.{starved_from, starved}
use Rattle.dim_rag.proofs.Exports.{found_same, starved_same}
use Rattle.dim_signature.specs.Sig.{Sig}
use Rattle.dim_signature.specs.Sorted.{sorted}
use Rattle.dim_signature.specs.Catalogue.{signature_number}
use Rattle.dim_signature.proofs.Exports.{found, missing}
use Rattle.dim_gate.specs.Known.{Known, knowns, known_sigs, learnt, learnt_sig, stack_of, stacks_of}
use Rattle.dim_gate.specs.Starved.{is_unlearnt, if_unlearnt, unlearnt}

none_is : {X : Type 0} (o : Option X) → is_none o ≡ true → o ≡ None
none_is None q = refl
none_is (Some x) q = absurd (cc)

is_none_of : {X : Type 0} (o : Option X) → o ≡ None → is_none o ≡ true
is_none_of o q = ap is_none q

-- who has no number among more has none among fewer
still_missing : (sigs more : List Sig) (stacks : List (List Frame)) → signature_number (sigs ++ more) stacks ≡ None → signature_number sigs stacks ≡ None
still_missing sigs more stacks q = go (signature_number sigs stacks) refl
  where
    go : (o : Option ℕ) → signature_number sigs stacks ≡ o → signature_number sigs stacks ≡ None
    go None r = r
    go (Some i) r =
        let w = found sigs stacks i r in
        let low : i < length sigs = slice_get_within sigs i w.0 w.1 in
        let size : length (sigs ++ more) ≡ length sigs + length more = length-append sigs more in
        let at : get_or (sigs ++ more) i w.0 ≡ w.0 = get_or_append_left sigs more w.0 i low ∙ get_or_from_slice_get sigs i w.0 w.0 w.1 in
        absurd (missing (sigs ++ more) stacks q i w.0 (omega (arith, low, size)) (ap (λ (s : Sig). s.stacks) at ∙ w.2))

-- the last of some signatures has a number
last_known : (sigs : List Sig) (s : Sig) (stacks : List (List Frame)) → s.stacks ≡ stacks → signature_number (sigs ++ s ∷ []) stacks ≡ None → ⊥
last_known sigs s stacks same q =
    let size : length (sigs ++ s ∷ []) ≡ length sigs + 1 = length_push sigs s in
    missing (sigs ++ s ∷ []) stacks q (length sigs) s (omega (arith, size)) (ap (λ (x : Sig). x.stacks) (get_or-append_seam sigs s [] s) ∙ same)

-- a set without a choice has nothing to be learnt
pub none_chosen : (n m cap : ℕ) (sigs : List Sig) (h : List Entry) (set : ℕ) → choice set m h n ≡ None → unlearnt n m cap sigs h set ≡ None
none_chosen n m cap sigs h set q = ap (λ o. option_and_then (if_unlearnt cap sigs h) (option_and_then (starved_from n m h) o)) q

module _ (n m cap : ℕ) (loaded : List Sig) (depth : ℕ) (b : List ℕ) (h : List Entry) where
  abbrev g : List Entry
  g = Learn b ∷ h

  abbrev before : List Sig
  before = known_sigs loaded depth h

  abbrev after : List Sig
  after = known_sigs loaded depth g

  after_is : after ≡ before ++ learnt_sig depth b h ∷ []
  after_is = map-append (λ (k : Known). k.sig) (knowns loaded depth h) (learnt depth (Learn b) h)

  longer : length after ≡ length before + 1
  longer = ap (λ (xs : List Sig). length xs) after_is ∙ length_push before (learnt_sig depth b h)

  stacks_same : (ps : List ℕ) → stacks_of ps g ≡ stacks_of ps h
  stacks_same ps = ap (λ f. sorted (map (λ p. stack_of (f p)) ps)) (found_same b h)

  pub missing_before : (ps : List ℕ) → signature_number after (stacks_of ps g) ≡ None → signature_number before (stacks_of ps h) ≡ None
  missing_before ps q =
      still_missing before (learnt_sig depth b h ∷ []) (stacks_of ps h)
      (subst (λ (xs : List Sig). signature_number xs (stacks_of ps h) ≡ None) after_is (subst (λ ss. signature_number after ss ≡ None) (stacks_same ps) q))

  -- what isn't to be learnt before isn't to be learnt after
  not_after : (ps : List ℕ) → is_unlearnt cap before h ps ≡ false → is_unlearnt cap after g ps ≡ false
  not_after ps q = elim (cases_Bool (is_unlearnt cap after g ps)) [
    | inr never ↦ never
    | inl yes_after ↦
        let new = missing_before ps (none_is (signature_number after (stacks_of ps g)) (and_parts _ _ yes_after).0) in
        let room : length after + 16 < cap = ltb-true (length after + 16) cap (and_parts _ _ yes_after).1 in
        let less : length before + 16 < cap = (let l = longer in omega (arith, l, room)) in
        absurd (false≢true (sym q ∙ and_from _ _ (is_none_of (signature_number before (stacks_of ps h)) new) (lt-ltb (length before + 16) cap less)))
  ]

  if_none : (sigs : List Sig) (k : List Entry) (ps : List ℕ) → is_unlearnt cap sigs k ps ≡ false → if_unlearnt cap sigs k ps ≡ None
  if_none sigs k ps q = ap (λ x. if x then Some ps else None) q

  none_if : (sigs : List Sig) (k : List Entry) (ps : List ℕ) → if_unlearnt cap sigs k ps ≡ None → is_unlearnt cap sigs k ps ≡ false
  none_if sigs k ps q = elim (cases_Bool (is_unlearnt cap sigs k ps)) [
    | inl t ↦ absurd (let e : Some ps ≡ None = sym (ap (λ x. if x then Some ps else None) t) ∙ q in cc)
    | inr f ↦ f
  ]

  pub none_stays : (set : ℕ) → unlearnt n m cap before h set ≡ None → unlearnt n m cap after g set ≡ None
  none_stays set q = go (starved n m h set) (starved_same b h n m set) q
    where
      go : (o : Option (List ℕ)) → starved n m g set ≡ o → option_and_then (if_unlearnt cap before h) o ≡ None → unlearnt n m cap after g set ≡ None
      go None r q = ap (option_and_then (if_unlearnt cap after g)) r
      go (Some ps) r q = ap (option_and_then (if_unlearnt cap after g)) r ∙ if_none after g ps (not_after ps (none_if before h ps q))

  -- what was learnt isn't to be learnt any more
  done : is_unlearnt cap after g b ≡ false
  done = elim (cases_Bool (is_unlearnt cap after g b)) [
    | inr never ↦ never
    | inl yes_after ↦
        let q = none_is (signature_number after (stacks_of b g)) (and_parts _ _ yes_after).0 in
        absurd (last_known before (learnt_sig depth b h) (stacks_of b h) refl
        (subst (λ (xs : List Sig). signature_number xs (stacks_of b h) ≡ None) after_is (subst (λ ss. signature_number after ss ≡ None) (stacks_same b) q)))
  ]

  pub learnt_done : (set : ℕ) → unlearnt n m cap before h set ≡ Some b → unlearnt n m cap after g set ≡ None
  learnt_done set q = go (starved n m h set) (starved_same b h n m set) q
    where
      second : (ps : List ℕ) (x : Bool) → (if x then Some ps else None) ≡ Some b → ps ≡ b
      second ps true q = cc
      second ps false q = absurd (cc)

      go : (o : Option (List ℕ)) → starved n m g set ≡ o → option_and_then (if_unlearnt cap before h) o ≡ Some b → unlearnt n m cap after g set ≡ None
      go None r q = absurd (cc)
      go (Some ps) r q =
          ap (option_and_then (if_unlearnt cap after g)) r
          ∙ subst (λ (x : List ℕ). if_unlearnt cap after g x ≡ None) (sym (second ps (is_unlearnt cap before h ps) q)) (if_none after g b done)

  -- it is new, and there is room for it
  pub is_new : (set : ℕ) → unlearnt n m cap before h set ≡ Some b → (signature_number before (stacks_of b h) ≡ None) × (length before + 16 < cap) × (starved n m h set ≡ Some b)
  is_new set q = go (starved n m h set) refl q
    where
      second : (ps : List ℕ) (x : Bool) → is_unlearnt cap before h ps ≡ x → starved n m h set ≡ Some ps → (if x then Some ps else None) ≡ Some b → (signature_number before (stacks_of b h) ≡ None) × (length before + 16 < cap) × (starved n m h set ≡ Some b)
      second ps false r s q = absurd (cc)
      second ps true r s q =
          let same : ps ≡ b = cc in
          (subst (λ (x : List ℕ). signature_number before (stacks_of x h) ≡ None) same (none_is (signature_number before (stacks_of ps h)) (and_parts _ _ r).0), ltb-true (length before + 16) cap (and_parts _ _ r).1, s ∙ q)

      go : (o : Option (List ℕ)) → starved n m h set ≡ o → option_and_then (if_unlearnt cap before h) o ≡ Some b → (signature_number before (stacks_of b h) ≡ None) × (length before + 16 < cap) × (starved n m h set ≡ Some b)
      go None r q = absurd (cc)
      go (Some ps) r q = second ps (is_unlearnt cap before h ps) refl r q
