-- Legal, immune and known by places.
use Rattle.std.proofs.Common.{◌≡◌, ℕ, zero, suc, ◌+◌, refl, ap, ◌∙◌, subst, arith, List, [], ◌∷◌, ◌++◌, length, map}
use Rattle.std.specs.Prelude.{Some, slice_get, option_map}
use Rattle.std.proofs.lemmas.List.{length-append, length-map}
use Rattle.std.proofs.lemmas.Option.{slice_get-map}
use Rattle.dim_rag.specs.declared.entry.Entry.{Entry}
use Rattle.dim_rag.specs.declared.entry.Entry.TheVariants.{Go, Yield, Got, Free, Took, Miss, End, Break, Learn}
use Rattle.dim_signature.specs.Sig.{Sig}
use Rattle.dim_gate.specs.Gate.{Constants}
use Rattle.dim_gate.specs.Known.{Known, knowns, learnt, learnt_sig}
use Rattle.dim_gate.specs.Legal.{IsLegalAfter, Legal}
use Rattle.dim_gate.specs.Immune.{IsImmuneAt, IsImmune}
use Rattle.dim_gate.specs.Learns.{learns}
use Rattle.dim_gate.specs.ByPlace.{LegalLaw, PrefixLaw, KnownLaw}
use Rattle.dim_gate.proofs.Fitting.{in_range, fits, earlier}

legal_whole : (c : Constants) (h : List Entry) → ((newer : List Entry) (e : Entry) (older : List Entry) → newer ++ (e ∷ older) ≡ h → IsLegalAfter c older e) → Legal c h
legal_whole c [] f = tt
legal_whole c (e ∷ h) f = (f [] e h refl, legal_whole c h (λ newer x older q. f (e ∷ newer) x older (ap (λ t. e ∷ t) q)))

pub legal_law : LegalLaw
legal_law = record {
  each = λ c newer e older k. (earlier c newer (e ∷ older) k).0;
  whole = legal_whole;
  fits = fits;
  in_range = in_range;
}

immune_here : (loaded : List Sig) (depth : ℕ) (h : List Entry) → IsImmune loaded depth h → IsImmuneAt loaded depth h
immune_here loaded depth [] k = k
immune_here loaded depth (e ∷ h) k = k.0

immune_each : (loaded : List Sig) (depth : ℕ) (newer older : List Entry) → IsImmune loaded depth (newer ++ older) → IsImmuneAt loaded depth older
immune_each loaded depth [] older k = immune_here loaded depth older k
immune_each loaded depth (e ∷ newer) older k = immune_each loaded depth newer older k.1

immune_whole : (loaded : List Sig) (depth : ℕ) (h : List Entry) → ((newer older : List Entry) → newer ++ older ≡ h → IsImmuneAt loaded depth older) → IsImmune loaded depth h
immune_whole loaded depth [] f = f [] [] refl
immune_whole loaded depth (e ∷ h) f = (f [] (e ∷ h) refl, immune_whole loaded depth h (λ newer older q. f (e ∷ newer) older (ap (λ t. e ∷ t) q)))

pub prefix_law : PrefixLaw
prefix_law = record { each = immune_each; whole = immune_whole }

-- an entry of a longer list keeps its number
get_left : {X : Type 0} (xs ys : List X) (i : ℕ) (x : X) → slice_get xs i ≡ Some x → slice_get (xs ++ ys) i ≡ Some x
get_left [] ys i x q = absurd (cc)
get_left (y ∷ xs) ys zero x q = q
get_left (y ∷ xs) ys (suc i) x q = get_left xs ys i x q

-- the next one has the number of those before it
get_next : {X : Type 0} (xs : List X) (x : X) → slice_get (xs ++ x ∷ []) (length xs) ≡ Some x
get_next [] x = refl
get_next (y ∷ xs) x = get_next xs x

module _ (loaded : List Sig) (depth : ℕ) where
  -- an entry adds as many as it learns
  count_step : (e : Entry) (h : List Entry) → length (learnt depth e h) + length (learns h) ≡ length (learns (e ∷ h))
  count_step (Go t l s) h = omega arith
  count_step (Yield t l s sig b) h = omega arith
  count_step (Got t l) h = omega arith
  count_step (Free t l) h = omega arith
  count_step (Took t l s) h = omega arith
  count_step (Miss t l s why) h = omega arith
  count_step (End t why) h = omega arith
  count_step (Break set t) h = omega arith
  count_step (Learn b) h = omega arith

  count : (h : List Entry) → length (knowns loaded depth h) ≡ length loaded + length (learns h)
  count [] =
      let known : Sig → Known = λ s. record { sig = s; since = 0 } in
      let n : length (map known loaded) ≡ length loaded = length-map loaded known in
      omega (arith, n)
  count (e ∷ h) =
      let a : length (knowns loaded depth h ++ learnt depth e h) ≡ length (knowns loaded depth h) + length (learnt depth e h) = length-append (knowns loaded depth h) (learnt depth e h) in
      let b = count h in
      let d = count_step e h in
      omega (arith, a, b, d)

  old_number : (h : List Entry) (i : ℕ) (s : Sig) → slice_get loaded i ≡ Some s → slice_get (knowns loaded depth h) i ≡ Some record { sig = s; since = 0 }
  old_number [] i s q = slice_get-map (λ s. record { sig = s; since = 0 }) loaded i ∙ ap (λ o. option_map (λ s. record { sig = s; since = 0 }) o) q
  old_number (e ∷ h) i s q = get_left (knowns loaded depth h) (learnt depth e h) i record { sig = s; since = 0 } (old_number h i s q)

  stays_known : (newer older : List Entry) (i : ℕ) (k : Known) → slice_get (knowns loaded depth older) i ≡ Some k → slice_get (knowns loaded depth (newer ++ older)) i ≡ Some k
  stays_known [] older i k q = q
  stays_known (e ∷ newer) older i k q = get_left (knowns loaded depth (newer ++ older)) (learnt depth e (newer ++ older)) i k (stays_known newer older i k q)

  new_number : (newer : List Entry) (places : List ℕ) (older : List Entry) → slice_get (knowns loaded depth (newer ++ (Learn places ∷ older))) (length loaded + length (learns older)) ≡ Some record { sig = learnt_sig depth places older; since = length older }
  new_number newer places older =
      let k : Known = record { sig = learnt_sig depth places older; since = length older } in
      stays_known newer (Learn places ∷ older) (length loaded + length (learns older)) k
      (subst (λ i. slice_get (knowns loaded depth older ++ k ∷ []) i ≡ Some k) (count older) (get_next (knowns loaded depth older) k))

pub known_law : KnownLaw
known_law = record {
  count = count;
  loaded = old_number;
  learnt = new_number;
}
