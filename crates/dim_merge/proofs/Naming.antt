-- What is found by numbers is what the definitions say by names.
use Rattle.std.proofs.Common.{◌≡◌, ◌+◌, ℕ, Bool, true, false, cond, ◌||◌, List, [], ◌∷◌, ◌++◌, map, Option, Some, All, refl, sym, ap, ap₂, ◌∙◌}
use Rattle.std.specs.Prelude.{min, not}
use Rattle.std.specs.List.{find}
use Rattle.std.proofs.lemmas.List.Elements.{All-nil, All-cons, All-head, All-tail, All-filter}
use Rattle.dim_stack.specs.declared.Frame.{Frame}
use Rattle.dim_stack.specs.Names.{AreAscending, IsNamedBy}
use Rattle.dim_signature.specs.Sig.{Sig}
use Rattle.dim_signature.specs.Catalogue.{has_stacks}
use Rattle.dim_history_file.specs.Value.{NamedSig, AreNamed, named, named_sig, named_stack, same_stacks, have_stacks}
use Rattle.dim_history_file.proofs.Comparing.{have_named}
use Rattle.dim_merge.specs.Merging as by_name
use Rattle.dim_merge.specs.Numbered.{yields_of, yields_for, with_yields, is_unknown_to, unknown_to}

abbrev IsNamed : List (List ℕ) → Sig → Type 0
IsNamed names s = All (IsNamedBy names) s.stacks

or_false : (b : Bool) → (b || false) ≡ b
or_false true = refl
or_false false = refl

module _ (names : List (List ℕ)) (up : AreAscending names) where
  one_named : (s : Sig) (stacks : List (List Frame)) → IsNamed names s → All (IsNamedBy names) stacks
      → has_stacks stacks s ≡ same_stacks (named_sig names s).stacks (map (named_stack names) stacks)
  one_named s stacks p q =
      sym (or_false (has_stacks stacks s))
      ∙ have_named names up (s ∷ []) stacks (All-cons (IsNamed names) s [] p (All-nil (IsNamed names))) q
      ∙ or_false (same_stacks (named_sig names s).stacks (map (named_stack names) stacks))

  pick_yields : (b : Bool) (s : Sig) (r : Option NamedSig) (q : Option Sig) → by_name.yields_of r ≡ yields_of q
      → by_name.yields_of (cond b (Some (named_sig names s)) r) ≡ yields_of (cond b (Some s) q)
  pick_yields true s r q h = refl
  pick_yields false s r q h = h

  yields_named : (sigs : List Sig) (stacks : List (List Frame)) → AreNamed names sigs → All (IsNamedBy names) stacks
      → by_name.yields_for (named names sigs) (map (named_stack names) stacks) ≡ yields_for sigs stacks
  yields_named [] stacks p q = refl
  yields_named (s ∷ sigs) stacks p q =
      let has = λ (t : NamedSig). same_stacks t.stacks (map (named_stack names) stacks) in
      ap (λ b. by_name.yields_of (cond b (Some (named_sig names s)) (find has (named names sigs)))) (sym (one_named s stacks (All-head (IsNamed names) s sigs p) q))
      ∙ pick_yields (has_stacks stacks s) s (find has (named names sigs)) (find (has_stacks stacks) sigs) (yields_named sigs stacks (All-tail (IsNamed names) s sigs p) q)

  with_yields_named : (others : List Sig) (s : Sig) → AreNamed names others → IsNamed names s
      → named_sig names (with_yields others s) ≡ by_name.with_yields (named names others) (named_sig names s)
  with_yields_named others s p q =
      ap (λ n. record { depth = s.depth; stacks = map (named_stack names) s.stacks; on = s.on; yields = min (s.yields + n) 4294967295 }) (sym (yields_named others s.stacks p q))

  pub known_named : (others sigs : List Sig) → AreNamed names others → AreNamed names sigs
      → named names (map (with_yields others) sigs) ≡ map (by_name.with_yields (named names others)) (named names sigs)
  known_named others [] p q = refl
  known_named others (s ∷ sigs) p q =
      ap₂ (λ x xs. x ∷ xs) (with_yields_named others s p (All-head (IsNamed names) s sigs q)) (known_named others sigs p (All-tail (IsNamed names) s sigs q))

  pick_named : (b c : Bool) (s : Sig) (r : List Sig) (q : List NamedSig) → b ≡ c → named names r ≡ q
      → named names (cond b (s ∷ r) r) ≡ cond c (named_sig names s ∷ q) q
  pick_named true true s r q e h = ap (λ xs. named_sig names s ∷ xs) h
  pick_named true false s r q e h = cc
  pick_named false true s r q e h = cc
  pick_named false false s r q e h = h

  pub unknown_named : (sigs others : List Sig) → AreNamed names sigs → AreNamed names others
      → named names (unknown_to sigs others) ≡ by_name.unknown_to (named names sigs) (named names others)
  unknown_named sigs [] p q = refl
  unknown_named sigs (s ∷ others) p q =
      pick_named (is_unknown_to sigs s) (not (have_stacks (named names sigs) (named_sig names s).stacks)) s (unknown_to sigs others) (by_name.unknown_to (named names sigs) (named names others))
      (ap not (have_named names up sigs s.stacks p (All-head (IsNamed names) s others q)))
      (unknown_named sigs others p (All-tail (IsNamed names) s others q))

  -- both parts, of two histories in one table
  pub merged_named : (first second : List Sig) → AreNamed names first → AreNamed names second
      → named names (map (with_yields second) first) ++ named names (unknown_to first second) ≡ by_name.merged (named names first) (named names second)
  merged_named first second p q = ap₂ (λ a b. a ++ b) (known_named second first q p) (unknown_named first second p q)

  -- each function of them stands in the table
  pub known_are_named : (others sigs : List Sig) → AreNamed names sigs → AreNamed names (map (with_yields others) sigs)
  known_are_named others [] q = q
  known_are_named others (s ∷ sigs) q =
      All-cons (IsNamed names) (with_yields others s) (map (with_yields others) sigs) (All-head (IsNamed names) s sigs q) (known_are_named others sigs (All-tail (IsNamed names) s sigs q))

  pub unknown_are_named : (sigs others : List Sig) → AreNamed names others → AreNamed names (unknown_to sigs others)
  unknown_are_named sigs others q = All-filter (is_unknown_to sigs) (IsNamed names) others q
