-- What a step is, and which places are the births of a starvation.
use Rattle.std.proofs.Common.{◌≡◌, ◌≢◌, ℕ, zero, suc, ◌<◌, ◌≤◌, ◌⊎◌, Bool, true, false, ◌||◌, ltb, eqb, refl, ap, sym, ◌∙◌, subst, inl, inr, arith, List, [], ◌∷◌, length, take, get_or}
use Rattle.std.specs.Prelude.{Option, Some, None, MatchOption, AllPairs, if◌then◌else◌, not, slice_get, is_none}
use Rattle.std.specs.Option.{option_or, option_and_then}
use Rattle.std.specs.List.{list_any}
use Rattle.std.proofs.lemmas.Bool.{cases_Bool, ltb-false, le-ltb, eq-eqb, ne_eqb, and_parts, and_from, or_left, or_right, false≢true}
use Rattle.std.proofs.lemmas.List.{get_or-map, length-map}
use Rattle.dim_rag.specs.declared.entry.Edge.{Edge}
use Rattle.dim_rag.specs.declared.entry.Entry.{Entry}
use Rattle.dim_rag.specs.declared.entry.Mode.{Mode}
use Rattle.dim_rag.specs.declared.entry.Mode.TheVariants.{Running, Allowed, Yielding, Ended}
use Rattle.dim_rag.specs.History.{mode, latest_wish, Wish}
use Rattle.dim_rag.specs.Edges.{edges, standing, standing_in}
use Rattle.dim_rag.specs.Born.{In, IsEdge, edge_born}
use Rattle.dim_rag.specs.Fits.{AreInRange}
use Rattle.dim_rag.specs.Waits.{waits, waits_by}
use Rattle.dim_rag.specs.Steps.{Step, first_or, Follow, HasOwner, IsCycle, births, run_into, RunsInto}
use Rattle.dim_rag.specs.Stuck.{is_yielding, choice, may_choose, IsChoice}
use Rattle.dim_rag.specs.FirstFailing.{first_failing}
use Rattle.dim_rag.specs.Certificate.{fault, passes_at}
use Rattle.dim_rag.specs.Starvation.{step, IsStarvation, is_on, has_new_lock, is_of_yielder, someone_yields, starves_at, starvation_fault, if_starvation, starved_from, starved, WaitsFor, IsKeptBy, StepLaw, StarvationLaw, StarvedLaw, NoCycleLaw}
use Rattle.dim_rag.proofs.Born.{edge_on, same_edge}
use Rattle.dim_rag.proofs.EdgeBorn.{edge_found, found_edge}
use Rattle.dim_rag.proofs.Certificates.{Finds, certificate, holder_hold}
use Rattle.dim_rag.proofs.Choices.{choice_law}
use Rattle.dim_rag.proofs.FirstFailing.{none_failing, failing_none}
use Rattle.dim_rag.proofs.Faults.{all_pass, no_fault}
use Rattle.dim_rag.proofs.Ranges.{edge_below}
use Rattle.dim_rag.proofs.Running.{run_law}
use Rattle.dim_rag.proofs.WithBirth.{or_parts}

module _ (n m : ℕ) (h : List Entry) where
  -- ---- steps
  waits_edge : (k : Mode) (e : Edge) → waits_by n h k ≡ Some e → IsEdge h e
  waits_edge (Allowed l birth) e q = let w = holder_hold n l.0 h e q in (edge_on w.0 l.0 h e (inr w.1)).2
  waits_edge Running e q = absurd (cc)
  waits_edge (Yielding l place) e q = absurd (cc)
  waits_edge (Ended place) e q = absurd (cc)

  cause_edge : (o : Option ℕ) (e : Edge) → option_and_then (edge_born h) o ≡ Some e → IsEdge h e × (o ≡ Some e.birth)
  cause_edge None e q = absurd (cc)
  cause_edge (Some p) e q = let w = found_edge h p e q in (w.0, ap (λ x. Some x) (sym w.1))

  either : (t : ℕ) (e : Edge) → step n m h t ≡ Some e → (waits n h t ≡ Some e) ⊎ (option_and_then (edge_born h) (standing n m t h) ≡ Some e)
  either t e q = or_parts (waits n h t) (option_and_then (edge_born h) (standing n m t h)) e q

  -- a step leads to an edge
  pub step_edge : (t : ℕ) (e : Edge) → step n m h t ≡ Some e → IsEdge h e
  step_edge t e q = elim (either t e q) [
    | inl a ↦ waits_edge (mode t h) e a
    | inr b ↦ (cause_edge (standing n m t h) e b).0
  ]

  waits_so : (t : ℕ) (k : Mode) (e : Edge) → mode t h ≡ k → waits_by n h k ≡ Some e → WaitsFor n t h e
  waits_so t (Allowed l birth) e r q = record { lock = l; birth = birth; allowed = r; held = q }
  waits_so t Running e r q = absurd (cc)
  waits_so t (Yielding l place) e r q = absurd (cc)
  waits_so t (Ended place) e r q = absurd (cc)

  -- who yields waits for no lock
  unwaiting : (k : Mode) (w : Option Wish) (p : ℕ) → standing_in (edges n m h) k w ≡ Some p → waits_by n h k ≡ None
  unwaiting (Yielding l place) w p q = refl
  unwaiting Running w p q = refl
  unwaiting (Ended place) w p q = refl
  unwaiting (Allowed l birth) w p q = absurd (cc)

  to_step : (t : ℕ) (e : Edge) → step n m h t ≡ Some e → WaitsFor n t h e ⊎ IsKeptBy n m t h e
  to_step t e q = elim (either t e q) [
    | inl a ↦ inl (waits_so t (mode t h) e refl a)
    | inr b ↦ let w = cause_edge (standing n m t h) e b in inr record { edge = w.0; first = w.1 }
  ]

  from_step : (t : ℕ) (e : Edge) → WaitsFor n t h e ⊎ IsKeptBy n m t h e → step n m h t ≡ Some e
  from_step t e (inl w) = ap (λ o. option_or o (option_and_then (edge_born h) (standing n m t h))) (ap (waits_by n h) w.allowed ∙ w.held)
  from_step t e (inr k) =
      ap (λ o. option_or o (option_and_then (edge_born h) (standing n m t h))) (unwaiting (mode t h) (latest_wish t h) e.birth k.first)
      ∙ ap (option_and_then (edge_born h)) k.first ∙ edge_found h e k.edge

  -- each edge to which a thread steps is found by its birth
  pub finds : Finds (edge_born h) (step n m h)
  finds = record { has = λ p e q. (found_edge h p e q).1; steps = λ t e q. edge_found h e (step_edge t e q) }

  -- the edges of a cycle, whose steps lead to edges
  module _ (s : Step) (to_edge : (t : ℕ) (e : Edge) → s t ≡ Some e → IsEdge h e) where
    followed_edges : (z : Edge) (es : List Edge) → Follow s z es → IsEdge h (first_or z es) → IsEdge h z × ((x : Edge) → In x es → IsEdge h x)
    followed_edges z [] f p = (p, λ x i. absurd i)
    followed_edges z (e ∷ es) f p =
        let w = followed_edges z es f.1 (to_edge e.t.0 (first_or z es) f.0) in
        (w.0, λ x i. elim i [ inl q ↦ subst (IsEdge h) q p | inr j ↦ w.1 x j ])

    edges_of_cycle : (c : List Edge) → IsCycle s c → (x : Edge) → In x c → IsEdge h x
    edges_of_cycle [] k x i = absurd k
    edges_of_cycle (e ∷ es) k x i =
        let w = followed_edges e es k.closed.1 (to_edge e.t.0 (first_or e es) k.closed.0) in
        elim i [ inl q ↦ subst (IsEdge h) q w.0 | inr j ↦ w.1 x j ]

  pub cycle_edges : (c : List Edge) → IsCycle (step n m h) c → (x : Edge) → In x c → IsEdge h x
  cycle_edges c k = edges_of_cycle (step n m h) step_edge c k

  pub waiting_edges : (c : List Edge) → IsCycle (waits n h) c → (x : Edge) → In x c → IsEdge h x
  waiting_edges c k = edges_of_cycle (waits n h) (λ t e q. waits_edge (mode t h) e q) c k

  -- ---- certificates
  -- what a list without a fault has
  record Parts (ps : List ℕ) : Type 0 where
    several : 2 ≤ length ps
    passes : (i : ℕ) → i < length ps → starves_at n m h ps i ≡ true
    yields : someone_yields h ps ≡ true

  parts : (ps : List ℕ) → starvation_fault n m h ps ≡ None → Parts ps
  parts ps q = go (ltb (length ps) 2) (first_failing (starves_at n m h ps) (length ps)) (someone_yields h ps) refl refl refl q
    where
      go : (b : Bool) (o : Option ℕ) (y : Bool) → ltb (length ps) 2 ≡ b → first_failing (starves_at n m h ps) (length ps) ≡ o → someone_yields h ps ≡ y
          → (if b then Some 0 else option_or o (if y then None else Some 0)) ≡ None → Parts ps
      go true o y r s t q = absurd (cc)
      go false (Some i) y r s t q = absurd (cc)
      go false None false r s t q = absurd (cc)
      go false None true r s t q = record { several = ltb-false (length ps) 2 r; passes = none_failing (starves_at n m h ps) (length ps) s; yields = t }

  from_parts : (ps : List ℕ) → Parts ps → starvation_fault n m h ps ≡ None
  from_parts ps k =
      ap (λ b. if b then Some 0 else option_or (first_failing (starves_at n m h ps) (length ps)) (if someone_yields h ps then None else Some 0)) (le-ltb (length ps) 2 k.several)
      ∙ ap (λ o. option_or o (if someone_yields h ps then None else Some 0)) (failing_none (starves_at n m h ps) (length ps) k.passes)
      ∙ ap (λ b. if b then None else Some 0) k.yields

  -- the two halves of a position
  steps_at : (ps : List ℕ) (i : ℕ) → starves_at n m h ps i ≡ true → passes_at (edge_born h) (step n m h) ps i ≡ true
  steps_at ps i q = (and_parts _ _ q).0

  new_at : (ps : List ℕ) (i : ℕ) → starves_at n m h ps i ≡ true → has_new_lock h (take i ps) (edge_born h (get_or ps i 0)) ≡ true
  new_at ps i q = (and_parts _ _ q).1

  -- the positions step as those of a cycle
  steps_pass : (ps : List ℕ) → Parts ps → fault (edge_born h) (step n m h) ps ≡ None
  steps_pass ps k = no_fault (edge_born h) (step n m h) ps k.several (λ i l. steps_at ps i (k.passes i l))

  -- somebody yields
  who_yields : (c : List Edge) → ((e : Edge) → In e c → IsEdge h e) → someone_yields h (births c) ≡ true → (t : ℕ) × HasOwner t c × (is_yielding (mode t h) ≡ true)
  who_yields [] f q = absurd (false≢true q)
  who_yields (e ∷ es) f q = elim (cases_Bool (is_of_yielder h (edge_born h e.birth))) [
    | inl a ↦ (e.t.0, inl refl, sym (ap (is_of_yielder h) (edge_found h e (f e (inl refl)))) ∙ a)
    | inr a ↦ let w = who_yields es (λ x i. f x (inr i)) (sym (ap (λ b. b || someone_yields h (births es)) a) ∙ q) in (w.0, inr w.1, w.2)
  ]

  yields_told : (c : List Edge) → ((e : Edge) → In e c → IsEdge h e) → (t : ℕ) → HasOwner t c → is_yielding (mode t h) ≡ true → someone_yields h (births c) ≡ true
  yields_told [] f t i y = absurd i
  yields_told (e ∷ es) f t (inl q) y =
      or_left (is_of_yielder h (edge_born h e.birth)) (someone_yields h (births es)) (ap (is_of_yielder h) (edge_found h e (f e (inl refl))) ∙ ap (λ u. is_yielding (mode u h)) q ∙ y)
  yields_told (e ∷ es) f t (inr i) y =
      or_right (is_of_yielder h (edge_born h e.birth)) (someone_yields h (births es)) (yields_told es (λ x j. f x (inr j)) t i y)

  -- ---- locks
  in_at : (c : List Edge) (i : ℕ) (d : Edge) → i < length c → In (get_or c i d) c
  in_at [] i d l = absurd (omega (arith, l))
  in_at (e ∷ es) zero d l = inl refl
  in_at (e ∷ es) (suc i) d l = inr (in_at es i d (omega (arith, l)))

  birth_at : (c : List Edge) (i : ℕ) (d : Edge) → i < length c → get_or (births c) i 0 ≡ (get_or c i d).birth
  birth_at c i d l = get_or-map (λ (e : Edge). e.birth) c i d 0 l

  edge_at : (c : List Edge) → ((e : Edge) → In e c → IsEdge h e) → (i : ℕ) (d : Edge) → i < length c → edge_born h (get_or (births c) i 0) ≡ Some (get_or c i d)
  edge_at c f i d l = ap (edge_born h) (birth_at c i d l) ∙ edge_found h (get_or c i d) (f (get_or c i d) (in_at c i d l))

  -- a test that none of the first j passes fails at each of them
  none_of : (f : ℕ → Bool) (xs : List ℕ) (i j : ℕ) → list_any f (take j xs) ≡ false → i < j → i < length xs → f (get_or xs i 0) ≡ false
  none_of f [] i j q l k = absurd (omega (arith, k))
  none_of f (x ∷ xs) i zero q l k = absurd (omega (arith, l))
  none_of f (x ∷ xs) zero (suc j) q l k = elim (cases_Bool (f x)) [ inl a ↦ absurd (false≢true (sym q ∙ or_left (f x) (list_any f (take j xs)) a)) | inr a ↦ a ]
  none_of f (x ∷ xs) (suc i) (suc j) q l k = none_of f xs i j (elim (cases_Bool (list_any f (take j xs))) [
    | inl a ↦ absurd (false≢true (sym q ∙ or_right (f x) (list_any f (take j xs)) a))
    | inr a ↦ a
  ]) (omega (arith, l)) (omega (arith, k))

  all_of : (f : ℕ → Bool) (xs : List ℕ) (j : ℕ) → ((i : ℕ) → i < j → i < length xs → f (get_or xs i 0) ≡ false) → list_any f (take j xs) ≡ false
  all_of f [] zero k = refl
  all_of f [] (suc j) k = refl
  all_of f (x ∷ xs) zero k = refl
  all_of f (x ∷ xs) (suc j) k =
      ap (λ b. b || list_any f (take j xs)) (k zero (omega arith) (omega arith)) ∙ all_of f xs j (λ i l r. k (suc i) (omega (arith, l)) (omega (arith, r)))

  not_true : (b : Bool) → not b ≡ true → b ≡ false
  not_true true q = absurd (cc)
  not_true false q = refl

  -- the locks of the positions differ
  own_locks : (c : List Edge) → ((e : Edge) → In e c → IsEdge h e) → ((i : ℕ) → i < length (births c) → starves_at n m h (births c) i ≡ true) → AllPairs (λ (x y : Edge). x.l.0 ≢ y.l.0) c
  own_locks c f k i j d less within same =
      let size : length (births c) ≡ length c = length-map c (λ (e : Edge). e.birth) in
      let new = new_at (births c) j (k j (omega (arith, within, size))) in
      let here : not (list_any (λ p. is_on (get_or c j d).l.0 (edge_born h p)) (take j (births c))) ≡ true = sym (ap (has_new_lock h (take j (births c))) (edge_at c f j d within)) ∙ new in
      let other = none_of (λ p. is_on (get_or c j d).l.0 (edge_born h p)) (births c) i j (not_true _ here) less (omega (arith, less, within, size)) in
      let on : eqb (get_or c i d).l.0 (get_or c j d).l.0 ≡ false = sym (ap (is_on (get_or c j d).l.0) (edge_at c f i d (omega (arith, less, within)))) ∙ other in
      absurd (false≢true (sym on ∙ eq-eqb (get_or c i d).l.0 (get_or c j d).l.0 same))

  new_locks : (c : List Edge) → ((e : Edge) → In e c → IsEdge h e) → AllPairs (λ (x y : Edge). x.l.0 ≢ y.l.0) c → (j : ℕ) (d : Edge) → j < length c → has_new_lock h (take j (births c)) (edge_born h (get_or (births c) j 0)) ≡ true
  new_locks c f k j d within =
      let size : length (births c) ≡ length c = length-map c (λ (e : Edge). e.birth) in
      ap (has_new_lock h (take j (births c))) (edge_at c f j d within)
      ∙ ap not (all_of (λ p. is_on (get_or c j d).l.0 (edge_born h p)) (births c) j (λ i less l.
      ap (is_on (get_or c j d).l.0) (edge_at c f i d (omega (arith, less, within))) ∙ ne_eqb (get_or c i d).l.0 (get_or c j d).l.0 (k i j d less within)))

  sound : (ps : List ℕ) → starvation_fault n m h ps ≡ None → (c : List Edge) × IsStarvation n m h c × (births c ≡ ps)
  sound ps q =
      let k = parts ps q in
      let w = (certificate (edge_born h) (step n m h) finds ps).0 (steps_pass ps k) in
      let all = cycle_edges w.0 w.1 in (
        w.0,
        record {
          cycle = w.1;
          yields = who_yields w.0 all (subst (λ (x : List ℕ). someone_yields h x ≡ true) (sym w.2) k.yields);
          apart = own_locks w.0 all (subst (λ (x : List ℕ). (i : ℕ) → i < length x → starves_at n m h x i ≡ true) (sym w.2) k.passes);
        },
        w.2,
      )

  first_of : (c : List Edge) → IsCycle (step n m h) c → Edge × (2 ≤ length c)
  first_of [] k = absurd k
  first_of (e ∷ es) k = (e, omega (arith, k.several))

  complete : (c : List Edge) → IsStarvation n m h c → starvation_fault n m h (births c) ≡ None
  complete c k =
      let size : length (births c) ≡ length c = length-map c (λ (e : Edge). e.birth) in
      let z = first_of c k.cycle in
      let all = cycle_edges c k.cycle in
      let few : 2 ≤ length (births c) = omega (arith, size, z.1) in
      let none = (certificate (edge_born h) (step n m h) finds (births c)).1 (c, k.cycle, refl) in
      from_parts (births c) record {
        several = few;
        passes = λ i l.
            let within : i < length c = omega (arith, l, size) in
            and_from _ _ (all_pass (edge_born h) (step n m h) (births c) none i l) (new_locks c all k.apart i z.0 within);
        yields = yields_told c all k.yields.0 k.yields.1 k.yields.2;
      }
    where
      read : (xs : List ℕ) (i : ℕ) → i < length xs → slice_get xs i ≡ Some (get_or xs i 0)
      read [] i l = absurd (omega (arith, l))
      read (x ∷ xs) zero l = refl
      read (x ∷ xs) (suc i) l = read xs i (omega (arith, l))

-- what a set's starvation is passes
pub starved_passes : (n m : ℕ) (h : List Entry) (set : ℕ) (ps : List ℕ) → starved n m h set ≡ Some ps → starvation_fault n m h ps ≡ None
starved_passes n m h set ps q = by_choice (choice set m h n) q
  where
    given : (x : List ℕ) (o : Option ℕ) → starvation_fault n m h x ≡ o → (if is_none o then Some x else None) ≡ Some ps → starvation_fault n m h ps ≡ None
    given x None r q = let same : x ≡ ps = cc in subst (λ (y : List ℕ). starvation_fault n m h y ≡ None) same r
    given x (Some i) r q = absurd (cc)

    by_run : (o : Option (List ℕ)) → option_and_then (if_starvation n m h) o ≡ Some ps → starvation_fault n m h ps ≡ None
    by_run None q = absurd (cc)
    by_run (Some x) q = given x (starvation_fault n m h x) refl q

    by_choice : (o : Option ℕ) → option_and_then (starved_from n m h) o ≡ Some ps → starvation_fault n m h ps ≡ None
    by_choice None q = absurd (cc)
    by_choice (Some u) q = by_run (run_into (step n m h) n n u) q

pub step_law : StepLaw
step_law = record {
  exact = λ n m t h e. (to_step n m h t e, from_step n m h t e);
  thread = λ n m h r t e q. (edge_below n m h e r (step_edge n m h t e q)).0;
}

pub starvation_law : StarvationLaw
starvation_law n m h ps = (sound n m h ps, λ w. subst (λ (x : List ℕ). starvation_fault n m h x ≡ None) w.2 (complete n m h w.0 w.1))

-- edges with the same births are the same
same_edges : (h : List Entry) (c d : List Edge) → ((e : Edge) → In e c → IsEdge h e) → ((e : Edge) → In e d → IsEdge h e) → births c ≡ births d → c ≡ d
same_edges h [] [] f g q = refl
same_edges h [] (y ∷ d) f g q = absurd (cc)
same_edges h (x ∷ c) [] f g q = absurd (cc)
same_edges h (x ∷ c) (y ∷ d) f g q =
    let b : x.birth ≡ y.birth = cc in
    let r : births c ≡ births d = cc in
    let e : x ≡ y = same_edge h x y (f x (inl refl)) (g y (inl refl)) b in
    let s : c ≡ d = same_edges h c d (λ z i. f z (inr i)) (λ z i. g z (inr i)) r in
    ap (λ (z : Edge). z ∷ c) e ∙ ap (λ (zs : List Edge). y ∷ zs) s

-- ---- the starvation of a set
chosen_below : (set n m u : ℕ) (h : List Entry) → choice set m h n ≡ Some u → u < n
chosen_below set n m u h q = (subst (λ (o : Option ℕ). MatchOption o ((v : ℕ) → v < n → may_choose set h v ≡ false) (IsChoice set m h n)) q (choice_law set m h n)).below

module _ (n m : ℕ) (h : List Entry) (r : AreInRange n m h) (u : ℕ) (l : u < n) (ps : List ℕ) where
  abbrev run : Type 0
  run = (c : List Edge) × IsStarvation n m h c × RunsInto (step n m h) u c × (births c ≡ ps)

  within : (t : ℕ) (e : Edge) → step n m h t ≡ Some e → e.t.0 < n
  within t e q = step_law.thread n m h r t e q

  starved_sound : starved_from n m h u ≡ Some ps → run
  starved_sound q = by_run (run_into (step n m h) n n u) refl q
    where
      by_fault : (b : List ℕ) (o : Option ℕ) → run_into (step n m h) n n u ≡ Some b → starvation_fault n m h b ≡ o → (if is_none o then Some b else None) ≡ Some ps → run
      by_fault b (Some i) p f q = absurd (cc)
      by_fault b None p f q =
          let same : b ≡ ps = cc in
          let w = (starvation_law n m h b).0 f in
          let d = (run_law.exact (step n m h) n within u l b).0 p in
          let one : d.0 ≡ w.0 = same_edges h d.0 w.0 (cycle_edges n m h d.0 d.1) (cycle_edges n m h w.0 w.1.cycle) (d.3 ∙ sym w.2) in
          (w.0, w.1, subst (RunsInto (step n m h) u) one d.2, w.2 ∙ same)

      by_run : (o : Option (List ℕ)) → run_into (step n m h) n n u ≡ o → option_and_then (if_starvation n m h) o ≡ Some ps → run
      by_run None p q = absurd (cc)
      by_run (Some b) p q = by_fault b (starvation_fault n m h b) p refl q

  starved_complete : run → starved_from n m h u ≡ Some ps
  starved_complete w =
      ap (option_and_then (if_starvation n m h)) ((run_law.exact (step n m h) n within u l ps).1 (w.0, w.1.cycle, w.2, w.3))
      ∙ ap (λ (o : Option ℕ). if is_none o then Some ps else None) ((starvation_law n m h ps).1 (w.0, w.1, w.3))

pub starved_law : StarvedLaw
starved_law n m h r set u q ps =
    let l : u < n = chosen_below set n m u h q in
    let same : starved n m h set ≡ starved_from n m h u = ap (option_and_then (starved_from n m h)) q in
    (λ p. starved_sound n m h r u l ps (sym same ∙ p), λ w. same ∙ starved_complete n m h r u l ps w)

-- ---- starvations are no cycles
-- an owner in a cycle of waits waits
owner_waits : (s : Step) (z : Edge) (es : List Edge) (t : ℕ) → Follow s z es → HasOwner t es → (e : Edge) × (s t ≡ Some e)
owner_waits s z [] t f i = absurd i
owner_waits s z (e ∷ es) t f (inl q) = (first_or z es, ap s (sym q) ∙ f.0)
owner_waits s z (e ∷ es) t f (inr i) = owner_waits s z es t f.1 i

in_cycle_waits : (s : Step) (c : List Edge) (t : ℕ) → IsCycle s c → HasOwner t c → (e : Edge) × (s t ≡ Some e)
in_cycle_waits s [] t k i = absurd k
in_cycle_waits s (e ∷ es) t k i = owner_waits s e (e ∷ es) t k.closed i

-- who waits yields not
waiter_runs : (n : ℕ) (h : List Entry) (k : Mode) (e : Edge) → waits_by n h k ≡ Some e → is_yielding k ≡ true → ⊥
waiter_runs n h (Allowed x birth) e q y = false≢true y
waiter_runs n h Running e q y = false≢true y
waiter_runs n h (Ended place) e q y = false≢true y
waiter_runs n h (Yielding x place) e q y = absurd (cc)

pub no_cycle_law : NoCycleLaw
no_cycle_law n m h c d k j q =
    let same : c ≡ d = same_edges h c d (cycle_edges n m h c k.cycle) (waiting_edges n m h d j) q in
    let w = in_cycle_waits (waits n h) d k.yields.0 j (subst (HasOwner k.yields.0) same k.yields.1) in
    waiter_runs n h (mode k.yields.0 h) w.0 w.1 k.yields.2
