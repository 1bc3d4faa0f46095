-- A history adopts no more than the first 4,080 candidates.
use Rattle.std.proofs.Common.{◌≡◌, ◌≢◌, ℕ, zero, suc, ◌+◌, ◌≤◌, ◌&&◌, true, false, refl, ap, ap₂, sym, ◌∙◌, subst, subst₂, inl, arith, List, [], ◌∷◌, ◌++◌, length, map, take, drop, append_assoc}
use Rattle.std.specs.Prelude.{All, AllPairs, Bool, if◌then◌else◌, nat_lt}
use Rattle.std.specs.List.{AllByRecursion}
use Rattle.std.proofs.lemmas.List.{get_or_append_left, length-append, length_push, take-append-drop, take-map}
use Rattle.std.proofs.lemmas.List.Elements.{All-push, recursion_from_All}
use Rattle.dim_rag.specs.declared.entry.Entry.{Entry}
use Rattle.dim_signature.specs.Sig.{Sig, fresh}
use Rattle.dim_predict.specs.declared.key.Key.{Key}
use Rattle.dim_predict.specs.declared.places.Places.{Places}
use Rattle.dim_predict.specs.Adopted.{AreDifferent, adopted, is_short}
use Rattle.dim_predict.specs.Candidates.{candidate_stacks, candidates_of}
use Rattle.dim_predict.specs.Nestings.{contents}
use Rattle.dim_predict.specs.Pairs.{stacks_of_places}
use Rattle.dim_predict.proofs.Keys.{no_key}
use Rattle.dim_predict.proofs.AddedTo.{adopted_stop}

pub adopted_take : (names : List (List ℕ)) (sigs cs : List Sig) (n : ℕ) → 4080 ≤ length sigs + n → adopted names sigs (take n cs) ≡ adopted names sigs cs
adopted_take names sigs [] zero h = refl
adopted_take names sigs [] (suc n) h = refl
adopted_take names sigs (c ∷ cs) zero h = sym (adopted_stop names sigs c cs (inl (omega (arith, h))))
adopted_take names sigs (c ∷ cs) (suc n) h =
    ap (λ (xs : List Sig). if nat_lt (length sigs) 4080 && is_short names (sigs ++ c ∷ []) then xs else sigs)
    (adopted_take names (sigs ++ c ∷ []) cs n (let p = length_push sigs c in omega (arith, h, p)))

-- what holds of a list holds of its first part
pairs_left : {X : Type 0} (R : X → X → Type 0) (xs ys : List X) → AllPairs R (xs ++ ys) → AllPairs R xs
pairs_left R xs ys a i j d l w =
    let all = length-append xs ys in
    subst₂ R (get_or_append_left xs ys d i (omega (arith, l, w))) (get_or_append_left xs ys d j w) (a i j d l (omega (arith, w, all)))

all_left : {X : Type 0} (P : X → Type 0) (xs ys : List X) → All P (xs ++ ys) → All P xs
all_left P xs ys a k d low = let all = length-append xs ys in subst P (get_or_append_left xs ys d k low) (a k d (omega (arith, low, all)))

pub different_take : (n : ℕ) (sigs cs : List Sig) → AreDifferent (sigs ++ cs) → AreDifferent (sigs ++ take n cs)
different_take n sigs cs a =
    pairs_left (λ (s t : Sig). s.stacks ≢ t.stacks) (sigs ++ take n cs) (drop n cs)
    (subst AreDifferent (sym (append_assoc sigs (take n cs) (drop n cs) ∙ ap (λ (xs : List Sig). sigs ++ xs) (take-append-drop n cs))) a)

pub all_take : {X : Type 0} (P : X → Type 0) (n : ℕ) (xs : List X) → All P xs → All P (take n xs)
all_take P n xs a = all_left P (take n xs) (drop n xs) (subst (All P) (sym (take-append-drop n xs)) a)

-- what holds of the signatures of a history and of candidates holds of those with what is adopted
module _ (P : Sig → Type 0) (names : List (List ℕ)) where
  either : (b : Bool) (xs ys : List Sig) → All P xs → All P ys → All P (if b then xs else ys)
  either true xs ys h k = h
  either false xs ys h k = k

  keeps : (sigs cs : List Sig) → All P sigs → AllByRecursion P cs → All P (adopted names sigs cs)
  keeps sigs [] a b = a
  keeps sigs (c ∷ cs) a b = either (nat_lt (length sigs) 4080 && is_short names (sigs ++ c ∷ [])) (adopted names (sigs ++ c ∷ []) cs) sigs (keeps (sigs ++ c ∷ []) cs (All-push P sigs c a b.0) b.1) a

  pub adopted_keeps : (sigs cs : List Sig) → All P sigs → All P cs → All P (adopted names sigs cs)
  adopted_keeps sigs cs a b = keeps sigs cs a (recursion_from_All P cs b)

-- the signatures of the first pairs that are found are the first candidates
pub first_found : (sigs : List Sig) (depth : ℕ) (entries : List Entry) (keys ks : List Key) (pairs firsts ps : List Places) (found : List Sig) → ks ≡ keys → firsts ≡ take 4080 pairs → ps ≡ firsts
    → found ≡ map (fresh depth) (map (stacks_of_places ks no_key) ps) → map (stacks_of_places keys no_key) pairs ≡ candidate_stacks sigs (contents entries) → found ≡ take 4080 (candidates_of sigs depth entries)
first_found sigs depth entries keys ks pairs firsts ps found a b c e f =
    let at = stacks_of_places keys no_key in
    e ∙ ap₂ (λ (x : List Key) (y : List Places). map (fresh depth) (map (stacks_of_places x no_key) y)) a (c ∙ b)
    ∙ ap (map (fresh depth)) (sym (take-map at 4080 pairs) ∙ ap (take 4080) f)
    ∙ sym (take-map (fresh depth) 4080 (candidate_stacks sigs (contents entries)))
