-- Steps from a thread run into one cycle at most, which is found within ps many steps ps there are threads.
use Rattle.std.proofs.Common.{◌≡◌, ℕ, zero, suc, ◌+◌, ◌-◌, ◌<◌, ◌≤◌, true, false, eqb, refl, ap, sym, ◌∙◌, subst, inl, inr, ◌⊎◌, arith, List, [], ◌∷◌, length}
use Rattle.std.specs.Prelude.{⊤, Option, Some, None, IsSome}
use Rattle.std.specs.Option.{option_or, option_and_then}
use Rattle.std.specs.List.{IsDistinct, list_any}
use Rattle.std.proofs.lemmas.Map.Keys.{IsDistinct-cons}
use Rattle.std.proofs.lemmas.Map.Steps.{length-le_from_distinct_below}
use Rattle.std.proofs.lemmas.Bool.{cases_Bool, cases_lt, or_cases, or_right, eqb-true, eq-eqb, false≢true}
use Rattle.std.proofs.lemmas.Option.{same_Some}
use Rattle.dim_rag.specs.declared.entry.Edge.{Edge}
use Rattle.dim_rag.specs.Steps.{Step, HasOwner, IsCycle, births, first_owner, walk, run_into, after, RunsInto, RunLaw}
use Rattle.dim_rag.proofs.Cycles.{one_cycle, to_end, stays_in}
use Rattle.dim_rag.proofs.Walks.{IsFound, walk_sound}
use Rattle.dim_rag.proofs.AllCycles.{others, nothing, found}

owner_first : (c : List Edge) (s : Step) (t : ℕ) → IsCycle s c → first_owner c ≡ t → HasOwner t c
owner_first [] s t k q = absurd k
owner_first (e ∷ es) s t k q = inl q

module _ (s : Step) where
  -- one step more at the end
  after_more : (k t u : ℕ) (e : Edge) → after s k t ≡ Some u → s u ≡ Some e → after s (suc k) t ≡ Some e.t.0
  after_more zero t u e p q = ap (option_and_then (λ (x : Edge). Some x.t.0)) (ap s (same_Some t u p) ∙ q)
  after_more (suc k) t u e p q = go (λ x r. after_more k x.t.0 u e r q) (s t) p
    where
      go : ((x : Edge) → after s k x.t.0 ≡ Some u → after s (suc k) x.t.0 ≡ Some e.t.0)
          → (o : Option Edge) → option_and_then (λ (x : Edge). after s k x.t.0) o ≡ Some u → option_and_then (λ (x : Edge). after s (suc k) x.t.0) o ≡ Some e.t.0
      go next None r = absurd (cc)
      go next (Some x) r = next x r

  -- the later of two threads on one way follows from the earlier
  split : (i k n t u v : ℕ) → i + k ≡ n → after s n t ≡ Some v → after s i t ≡ Some u → after s k u ≡ Some v
  split zero k n t u v e p q = let same : k ≡ n = omega (arith, e) in ap (after s k) (sym (same_Some t u q)) ∙ ap (λ j. after s j t) same ∙ p
  split (suc i) k zero t u v e p q = absurd (omega (arith, e))
  split (suc i) k (suc n) t u v e p q = go (λ x a b. split i k n x.t.0 u v (omega (arith, e)) a b) (s t) p q
    where
      go : ((x : Edge) → after s n x.t.0 ≡ Some v → after s i x.t.0 ≡ Some u → after s k u ≡ Some v)
          → (o : Option Edge) → option_and_then (λ (x : Edge). after s n x.t.0) o ≡ Some v → option_and_then (λ (x : Edge). after s i x.t.0) o ≡ Some u → after s k u ≡ Some v
      go next None a b = absurd (cc)
      go next (Some x) a b = next x a b

  -- steps from a thread of a cycle lead to its threads
  stays : (c : List Edge) → IsCycle s c → (k u v : ℕ) → HasOwner u c → after s k u ≡ Some v → HasOwner v c
  stays c j zero u v h p = subst (λ (x : ℕ). HasOwner x c) (same_Some u v p) h
  stays [] j (suc k) u v h p = absurd j
  stays (e ∷ es) j (suc k) u v h p = go (λ x q r. stays (e ∷ es) j k x.t.0 v (stays_in s e es j.closed u x h q) r) (s u) refl p
    where
      go : ((x : Edge) → s u ≡ Some x → after s k x.t.0 ≡ Some v → HasOwner v (e ∷ es)) → (o : Option Edge) → s u ≡ o → option_and_then (λ (x : Edge). after s k x.t.0) o ≡ Some v → HasOwner v (e ∷ es)
      go next None q r = absurd (cc)
      go next (Some x) q r = next x q r

  -- and all of them lead to its first thread
  comes : (c : List Edge) → IsCycle s c → (t : ℕ) → RunsInto s t c → (k : ℕ) × (after s k t ≡ Some (first_owner c))
  comes [] j t r = absurd j
  comes (e ∷ es) j t r =
      to_end s (λ u. (k : ℕ) × (after s k t ≡ Some u)) (λ u x w q. (suc w.0, after_more w.0 t u x w.1 q)) e (e ∷ es) r.1 j.closed r.3 (r.0, r.2)

  -- one cycle at most
  ordered_one : (t : ℕ) (c d : List Edge) → IsCycle s c → IsCycle s d → (i k u v : ℕ) → after s i t ≡ Some u → HasOwner u c → after s (i + k) t ≡ Some v → HasOwner v d → c ≡ d
  ordered_one t c d j l i k u v p h q g = one_cycle s c d v j l (stays c j k u v h (split i k (i + k) t u v refl q p)) g

  pub one_run : (t : ℕ) (c d : List Edge) → IsCycle s c → IsCycle s d → RunsInto s t c → RunsInto s t d → c ≡ d
  one_run t c d j l a b = elim (cases_lt a.0 b.0) [
    | inl less ↦ ordered_one t c d j l a.0 (b.0 - a.0) a.1 b.1 a.2 a.3 (ap (λ k. after s k t) (let e : a.0 + (b.0 - a.0) ≡ b.0 = omega (arith, less) in e) ∙ b.2) b.3
    | inr le ↦ sym (ordered_one t d c l j b.0 (a.0 - b.0) b.1 a.1 b.2 b.3 (ap (λ k. after s k t) (let e : b.0 + (a.0 - b.0) ≡ a.0 = omega (arith, le) in e) ∙ a.2) a.3)
  ]

  -- ---- a way without a thread twice
  -- the steps from t lead by these threads to f, which is not among them
  abbrev Leads : ℕ → ℕ → List ℕ → Type 0
  Leads t f [] = t ≡ f
  Leads t f (a ∷ ps) = (a ≡ t) × (x : Edge) × (s t ≡ Some x) × Leads x.t.0 f ps

  abbrev AreFresh : List ℕ → Type 0
  AreFresh [] = ⊤
  AreFresh (a ∷ ps) = (list_any (eqb a) ps ≡ true → ⊥) × AreFresh ps

  abbrev IsWay : ℕ → ℕ → List ℕ → Type 0
  IsWay t f ps = Leads t f ps × AreFresh ps × (list_any (eqb f) ps ≡ true → ⊥)

  -- the way from a thread on
  rest : (t y f : ℕ) (ps : List ℕ) → IsWay y f ps → list_any (eqb t) ps ≡ true → (bs : List ℕ) × IsWay t f bs
  rest t y f [] w i = absurd (false≢true i)
  rest t y f (a ∷ ps) w i = elim (or_cases _ _ i) [
    | inl q ↦
        let same : t ≡ a = eqb-true t a q in
        (a ∷ ps, ((sym same, w.0.1, ap s (same ∙ w.0.0) ∙ w.0.2, w.0.3), w.1, w.2))
    | inr k ↦ rest t w.0.1.t.0 f ps (w.0.3, w.1.1, λ z. w.2 (or_right (eqb f a) (list_any (eqb f) ps) z)) k
  ]

  -- a thread before a way
  longer : (t f : ℕ) (x : Edge) (ps : List ℕ) → eqb t f ≡ false → s t ≡ Some x → IsWay x.t.0 f ps → (bs : List ℕ) × IsWay t f bs
  longer t f x ps n q w = elim (cases_Bool (list_any (eqb t) ps)) [
    | inl i ↦ rest t x.t.0 f ps w i
    | inr i ↦ (
      t ∷ ps,
      (
        (refl, x, q, w.0),
        (λ k. false≢true (sym i ∙ k), w.1),
        λ k. elim (or_cases _ _ k) [
          | inl e ↦ false≢true (sym n ∙ eq-eqb t f (sym (eqb-true f t e)))
          | inr j ↦ w.2 j
        ],
      ),
    )
  ]

  way : (j t f : ℕ) → after s j t ≡ Some f → (ps : List ℕ) × IsWay t f ps
  way zero t f p = ([], (same_Some t f p, tt, λ i. false≢true i))
  way (suc j) t f p = elim (cases_Bool (eqb t f)) [
    | inl q ↦ ([], (eqb-true t f q, tt, λ i. false≢true i))
    | inr q ↦ go (λ x a r. let w = way j x.t.0 f r in longer t f x w.0 q a w.1) (s t) refl p
  ]
    where
      go : ((x : Edge) → s t ≡ Some x → after s j x.t.0 ≡ Some f → (ps : List ℕ) × IsWay t f ps) → (o : Option Edge) → s t ≡ o → option_and_then (λ (x : Edge). after s j x.t.0) o ≡ Some f → (ps : List ℕ) × IsWay t f ps
      go next None q r = absurd (cc)
      go next (Some x) q r = next x q r

  way_after : (ps : List ℕ) (t f : ℕ) → Leads t f ps → after s (length ps) t ≡ Some f
  way_after [] t f w = ap (λ (x : ℕ). Some x) w
  way_after (a ∷ ps) t f w = ap (option_and_then (λ (x : Edge). after s (length ps) x.t.0)) w.2 ∙ way_after ps w.1.t.0 f w.3

  distinct : (ps : List ℕ) → AreFresh ps → IsDistinct eqb ps
  distinct [] w = nothing
  distinct (a ∷ ps) w = IsDistinct-cons eqb a ps (others a ps w.0) (distinct ps w.1)

  module _ (n : ℕ) (within : (t : ℕ) (e : Edge) → s t ≡ Some e → e.t.0 < n) where
    way_below : (ps : List ℕ) (t f : ℕ) → t < n → Leads t f ps → (f < n) × ((q : ℕ) → list_any (eqb q) ps ≡ true → q < n)
    way_below [] t f l w = (subst (λ (x : ℕ). x < n) w l, λ q i. absurd (false≢true i))
    way_below (a ∷ ps) t f l w =
        let r = way_below ps w.1.t.0 f (within t w.1 w.2) w.3 in (
          r.0,
          λ q i. elim (or_cases _ _ i) [
            | inl e ↦ let same : q ≡ t = eqb-true q a e ∙ w.0 in subst (λ (x : ℕ). x < n) (sym same) l
            | inr k ↦ r.1 q k
          ],
        )

    -- so it has fewer steps than there are threads
    way_short : (ps : List ℕ) (t f : ℕ) → t < n → IsWay t f ps → length ps < n
    way_short ps t f l w =
        let r = way_below ps t f l w.0 in
        let few : length (f ∷ ps) ≤ n = length-le_from_distinct_below (f ∷ ps) n (distinct (f ∷ ps) (w.2, w.1)) (λ q i. elim (or_cases _ _ i) [
          | inl e ↦ subst (λ (x : ℕ). x < n) (sym (eqb-true q f e)) r.0
          | inr k ↦ r.1 q k
        ]) in
        omega (arith, few)

    -- ---- what is run into
    either : (a b : Option (List ℕ)) (x : List ℕ) → option_or a b ≡ Some x → (a ≡ Some x) ⊎ (b ≡ Some x)
    either None b x q = inr q
    either (Some y) b x q = inl q

    run_sound : (k t : ℕ) (b : List ℕ) → run_into s n k t ≡ Some b → (c : List Edge) × IsCycle s c × RunsInto s t c × (births c ≡ b)
    run_sound zero t b q = absurd (cc)
    run_sound (suc k) t b q = elim (either (walk s t n t []) (option_and_then (λ (e : Edge). run_into s n k e.t.0) (s t)) b q) [
      | inl a ↦ here (walk_sound s t n b a)
      | inr r ↦ go (run_sound k) (s t) refl r
    ]
      where
        here : IsFound s t b → (c : List Edge) × IsCycle s c × RunsInto s t c × (births c ≡ b)
        here (c, j, f, e) = (c, j, (0, t, refl, owner_first c s t j f), sym e)

        go : ((u : ℕ) (a : List ℕ) → run_into s n k u ≡ Some a → (c : List Edge) × IsCycle s c × RunsInto s u c × (births c ≡ a))
            → (o : Option Edge) → s t ≡ o → option_and_then (λ (e : Edge). run_into s n k e.t.0) o ≡ Some b → (c : List Edge) × IsCycle s c × RunsInto s t c × (births c ≡ b)
        go next None p r = absurd (cc)
        go next (Some x) p r =
            let w = next x.t.0 b r in
            (w.0, w.1, (suc w.2.0, w.2.1, ap (option_and_then (λ (e : Edge). after s w.2.0 e.t.0)) p ∙ w.2.2, w.2.3), w.3)

    some_or : (a b : Option (List ℕ)) → IsSome b → IsSome (option_or a b)
    some_or None b i = i
    some_or (Some x) b i = refl

    run_some : (c : List Edge) → IsCycle s c → (j k t : ℕ) → after s j t ≡ Some (first_owner c) → j < k → IsSome (run_into s n k t)
    run_some c i j zero t p l = absurd (omega (arith, l))
    run_some c i zero (suc k) t p l =
        let same : t ≡ first_owner c = same_Some t (first_owner c) p in
        let here : walk s t n t [] ≡ Some (births c) = ap (λ u. walk s u n u []) same ∙ found s n within c i in
        subst (λ (o : Option (List ℕ)). IsSome (option_or o (option_and_then (λ (e : Edge). run_into s n k e.t.0) (s t)))) (sym here) refl
    run_some c i (suc j) (suc k) t p l = some_or (walk s t n t []) (option_and_then (λ (e : Edge). run_into s n k e.t.0) (s t)) (go (λ x q. run_some c i j k x.t.0 q (omega (arith, l))) (s t) p)
      where
        go : ((x : Edge) → after s j x.t.0 ≡ Some (first_owner c) → IsSome (run_into s n k x.t.0))
            → (o : Option Edge) → option_and_then (λ (e : Edge). after s j e.t.0) o ≡ Some (first_owner c) → IsSome (option_and_then (λ (e : Edge). run_into s n k e.t.0) o)
        go next None q = absurd (cc)
        go next (Some x) q = next x q

    run_complete : (t : ℕ) → t < n → (b : List ℕ) → (c : List Edge) × IsCycle s c × RunsInto s t c × (births c ≡ b) → run_into s n n t ≡ Some b
    run_complete t l b (c, j, r, e) =
        let k = comes c j t r in
        let w = way k.0 t (first_owner c) k.1 in
        go (run_into s n n t) refl (run_some c j (length w.0) n t (way_after w.0 t (first_owner c) w.1.0) (way_short w.0 t (first_owner c) l w.1))
      where
        go : (o : Option (List ℕ)) → run_into s n n t ≡ o → IsSome o → run_into s n n t ≡ Some b
        go None q i = absurd (false≢true i)
        go (Some x) q i =
            let d = run_sound n t x q in
            let same : d.0 ≡ c = one_run t d.0 c d.1 j d.2 r in
            q ∙ ap (λ (y : List ℕ). Some y) (sym d.3 ∙ ap births same ∙ e)

pub run_law : RunLaw
run_law = record {
  exact = λ s n within t l b. (run_sound s n within n t b, run_complete s n within t l b);
  one = one_run;
}
