-- When each starvation that is learnt is broken out of at once.
use Rattle.std.proofs.Common.{◌≡◌, ℕ, ◌⊎◌, true, ◌||◌, refl, ap, sym, ◌∙◌, subst, inl, inr, List, [], ◌∷◌, ◌++◌, append_assoc, append-nil, nat_eq}
use Rattle.std.specs.Prelude.{Option, Some, None, is_none}
use Rattle.std.specs.Bool.{Decides}
use Rattle.std.specs.Cmp.Lexicographic.{pointwise}
use Rattle.std.proofs.lemmas.Bool.{cases_Bool, and_parts, and_from, or_left, or_right, false≢true}
use Rattle.std.proofs.lemmas.Bool.Decides.{Decides-eqb}
use Rattle.std.proofs.lemmas.Slice.Eq.{slice_eq-Decides}
use Rattle.dim_rag.specs.declared.entry.Entry.{Entry}
use Rattle.dim_rag.specs.declared.entry.Entry.TheVariants.{Go, Yield, Got, Free, Took, Miss, End, Break, Learn}
use Rattle.dim_rag.specs.Certificate.{cycle_fault}
use Rattle.dim_rag.specs.Starvation.{starved}
use Rattle.dim_gate.specs.Gate.{Constants}
use Rattle.dim_gate.specs.Learns.{is_of_cycle}
use Rattle.dim_gate.specs.Settled.{IsBrokenOut, is_given, breaks_out, is_followed, are_followed, FollowedLaw}

-- the oldest of some entries, the newest of them first
abbrev pub oldest : List Entry → Option Entry
oldest [] = None
oldest (e ∷ []) = Some e
oldest (e ∷ f ∷ es) = oldest (f ∷ es)

oldest_push : (es : List Entry) (e : Entry) → oldest (es ++ e ∷ []) ≡ Some e
oldest_push [] e = refl
oldest_push (x ∷ []) e = refl
oldest_push (x ∷ y ∷ es) e = oldest_push (y ∷ es) e

split : (es : List Entry) (e : Entry) → oldest es ≡ Some e → (later : List Entry) × (es ≡ later ++ e ∷ [])
split [] e q = absurd (cc)
split (x ∷ []) e q = ([], (let same : x ≡ e = cc in ap (λ y. y ∷ []) same))
split (x ∷ y ∷ es) e q = let w = split (y ∷ es) e q in (x ∷ w.0, ap (λ ys. x ∷ ys) w.1)

births_equal : (a b : List ℕ) → Decides (pointwise nat_eq a b) (a ≡ b)
births_equal a b = slice_eq-Decides Decides-eqb a b _ refl

given : (b : List ℕ) (o : Option (List ℕ)) → is_given b o ≡ true → o ≡ Some b
given b None q = absurd (false≢true q)
given b (Some x) q = ap (λ y. Some y) ((births_equal x b).0 q)

pub given_self : (b : List ℕ) → is_given b (Some b) ≡ true
given_self b = (births_equal b b).1 refl

module _ (c : Constants) where
  -- what is said of a Learn after older entries, behind which these come
  abbrev pub Said : List Entry → List Entry → List ℕ → Type 0
  Said after older places = (cycle_fault c.threads c.locks older places ≡ None) ⊎ IsBrokenOut c older after places

  broken : (after older : List Entry) (b : List ℕ) (o : Option Entry) → oldest after ≡ o → breaks_out c.threads c.locks older b o ≡ true → IsBrokenOut c older after b
  broken after older b None r q = absurd (false≢true q)
  broken after older b (Some (Break set t)) r q = let w = split after (Break set t) r in record { set = set; thread = t; later = w.0; next = w.1; starvation = given b (starved c.threads c.locks older set) q }
  broken after older b (Some (Go t l s)) r q = absurd (false≢true q)
  broken after older b (Some (Yield t l s sig births)) r q = absurd (false≢true q)
  broken after older b (Some (Got t l)) r q = absurd (false≢true q)
  broken after older b (Some (Free t l)) r q = absurd (false≢true q)
  broken after older b (Some (Took t l s)) r q = absurd (false≢true q)
  broken after older b (Some (Miss t l s why)) r q = absurd (false≢true q)
  broken after older b (Some (End t why)) r q = absurd (false≢true q)
  broken after older b (Some (Learn births)) r q = absurd (false≢true q)

  breaks : (after older : List Entry) (b : List ℕ) → IsBrokenOut c older after b → breaks_out c.threads c.locks older b (oldest after) ≡ true
  breaks after older b k =
      ap (breaks_out c.threads c.locks older b) (ap oldest k.next ∙ oldest_push k.later (Break k.set k.thread))
      ∙ ap (is_given b) k.starvation ∙ given_self b

  of_cycle : (older : List Entry) (b : List ℕ) → is_of_cycle c.threads c.locks older b ≡ true → cycle_fault c.threads c.locks older b ≡ None
  of_cycle older b q = go (cycle_fault c.threads c.locks older b) refl q
    where
      go : (o : Option ℕ) → cycle_fault c.threads c.locks older b ≡ o → is_none o ≡ true → cycle_fault c.threads c.locks older b ≡ None
      go None r q = r
      go (Some i) r q = absurd (false≢true q)

  learn_said : (after older : List Entry) (b : List ℕ) → is_followed c.threads c.locks older (oldest after) (Learn b) ≡ true → Said after older b
  learn_said after older b q = elim (cases_Bool (is_of_cycle c.threads c.locks older b)) [
    | inl t ↦ inl (of_cycle older b t)
    | inr f ↦ inr (broken after older b (oldest after) refl (sym (ap (λ x. x || breaks_out c.threads c.locks older b (oldest after)) f) ∙ q))
  ]

  said_learn : (after older : List Entry) (b : List ℕ) → Said after older b → is_followed c.threads c.locks older (oldest after) (Learn b) ≡ true
  said_learn after older b (inl q) = or_left (is_of_cycle c.threads c.locks older b) (breaks_out c.threads c.locks older b (oldest after)) (ap is_none q)
  said_learn after older b (inr k) = or_right (is_of_cycle c.threads c.locks older b) (breaks_out c.threads c.locks older b (oldest after)) (breaks after older b k)

  here : (after older : List Entry) (e : Entry) → ((b : List ℕ) → Learn b ≡ e → Said after older b) → is_followed c.threads c.locks older (oldest after) e ≡ true
  here after older (Learn b) f = said_learn after older b (f b refl)
  here after older (Go t l s) f = refl
  here after older (Yield t l s sig births) f = refl
  here after older (Got t l) f = refl
  here after older (Free t l) f = refl
  here after older (Took t l s) f = refl
  here after older (Miss t l s why) f = refl
  here after older (End t why) f = refl
  here after older (Break set t) f = refl

  -- what is said of all Learns of h, behind which these come
  abbrev pub AllSaid : List Entry → List Entry → Type 0
  AllSaid after h = (newer : List Entry) (places : List ℕ) (older : List Entry) → newer ++ (Learn places ∷ older) ≡ h → Said (after ++ newer) older places

  to_all : (after h : List Entry) → are_followed c.threads c.locks (oldest after) h ≡ true → AllSaid after h
  to_all after [] q [] places older e = absurd (cc)
  to_all after [] q (x ∷ newer) places older e = absurd (cc)
  to_all after (e ∷ h) q [] places older r =
      let same : e ≡ Learn places = sym (let k : Learn places ≡ e = cc in k) in
      let rest : h ≡ older = sym (let k : older ≡ h = cc in k) in
      let one = (and_parts (is_followed c.threads c.locks h (oldest after) e) _ q).0 in
      subst (λ (xs : List Entry). Said xs older places) (sym (append-nil after))
      (learn_said after older places (subst (λ (y : List Entry). is_followed c.threads c.locks y (oldest after) (Learn places) ≡ true) rest (subst (λ (x : Entry). is_followed c.threads c.locks h (oldest after) x ≡ true) same one)))
  to_all after (e ∷ h) q (x ∷ newer) places older r =
      let same : e ≡ x = sym (let k : x ≡ e = cc in k) in
      let rest : newer ++ (Learn places ∷ older) ≡ h = cc in
      let on = (and_parts (is_followed c.threads c.locks h (oldest after) e) _ q).1 in
      let all = to_all (after ++ e ∷ []) h (subst (λ (o : Option Entry). are_followed c.threads c.locks o h ≡ true) (sym (oldest_push after e)) on) newer places older rest in
      subst (λ (y : Entry). Said (after ++ (y ∷ newer)) older places) same (subst (λ (xs : List Entry). Said xs older places) (append_assoc after (e ∷ []) newer) all)

  from_all : (after h : List Entry) → AllSaid after h → are_followed c.threads c.locks (oldest after) h ≡ true
  from_all after [] f = refl
  from_all after (e ∷ h) f =
      let one = here after h e (λ b q. subst (λ (xs : List Entry). Said xs h b) (append-nil after) (f [] b h (ap (λ (x : Entry). x ∷ h) q))) in
      let all = from_all (after ++ e ∷ []) h (λ newer places older q. subst (λ (xs : List Entry). Said xs older places) (sym (append_assoc after (e ∷ []) newer)) (f (e ∷ newer) places older (ap (λ (xs : List Entry). e ∷ xs) q))) in
      and_from _ _ one (subst (λ (o : Option Entry). are_followed c.threads c.locks o h ≡ true) (oldest_push after e) all)

pub followed_law : FollowedLaw
followed_law c h = (to_all c [] h, from_all c [] h)
