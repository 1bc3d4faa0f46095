-- Numbers read as names, and these as numbers again.
use Rattle.std.proofs.Common.{◌≡◌, ◌<◌, ℕ, List, [], ◌∷◌, length, map, All, refl, ap, ap₂}
use Rattle.std.specs.Option.{unwrap_or}
use Rattle.std.proofs.lemmas.List.Elements.{All-head, All-tail}
use Rattle.std.proofs.lemmas.Option.{slice_get-get_or}
use Rattle.dim_stack.specs.declared.Frame.{Frame}
use Rattle.dim_stack.specs.Names.{AreAscending, OwnLaw, IsNamedBy, name_of}
use Rattle.dim_signature.specs.Sig.{Sig}
use Rattle.dim_history_file.specs.Value.{named_frame, named_stack, named, numbered_frame, numbered_stack, numbered, AreNamed}

frame_again : OwnLaw → (names : List (List ℕ)) → AreAscending names → (f : Frame) → f.func < length names → numbered_frame names (named_frame names f) ≡ f
frame_again own names up f low = ap (λ o. record { func = unwrap_or o 0; at = f.at }) (own names up f.func (name_of names f.func) (slice_get-get_or names f.func [] low))

stack_again : OwnLaw → (names : List (List ℕ)) → AreAscending names → (stack : List Frame) → IsNamedBy names stack → numbered_stack names (named_stack names stack) ≡ stack
stack_again own names up [] all = refl
stack_again own names up (f ∷ fs) all =
    ap₂ (λ x xs. x ∷ xs) (frame_again own names up f (All-head (λ (x : Frame). x.func < length names) f fs all))
    (stack_again own names up fs (All-tail (λ (x : Frame). x.func < length names) f fs all))

stacks_again : OwnLaw → (names : List (List ℕ)) → AreAscending names → (stacks : List (List Frame)) → All (IsNamedBy names) stacks → map (numbered_stack names) (map (named_stack names) stacks) ≡ stacks
stacks_again own names up [] all = refl
stacks_again own names up (s ∷ ss) all =
    ap₂ (λ x xs. x ∷ xs) (stack_again own names up s (All-head (IsNamedBy names) s ss all)) (stacks_again own names up ss (All-tail (IsNamedBy names) s ss all))

abbrev IsNamed : List (List ℕ) → Sig → Type 0
IsNamed names s = All (IsNamedBy names) s.stacks

pub sigs_again : OwnLaw → (names : List (List ℕ)) → AreAscending names → (sigs : List Sig) → AreNamed names sigs → numbered names (named names sigs) ≡ sigs
sigs_again own names up [] all = refl
sigs_again own names up (s ∷ ss) all =
    ap₂ (λ x xs. x ∷ xs) (ap (λ stacks. record { depth = s.depth; stacks = stacks; on = s.on; yields = s.yields }) (stacks_again own names up s.stacks (All-head (IsNamed names) s ss all)))
    (sigs_again own names up ss (All-tail (IsNamed names) s ss all))
