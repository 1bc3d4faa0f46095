-- The births of the covers, the cycles and the starvations that the entries of a legal history tell.
use Rattle.std.proofs.Common.{◌≡◌, ℕ, zero, suc, ◌+◌, ◌<◌, ◌≤◌, Bool, true, false, eqb, ltb, refl, ap, ◌∙◌, subst, inl, inr, arith, List, [], ◌∷◌, ◌++◌, length, map, Option, Some, None}
use Rattle.std.specs.Prelude.{slice_get, if◌then◌else◌, IsSome, is_none}
use Rattle.std.specs.List.{AllByRecursion}
use Rattle.std.proofs.lemmas.Option.{MatchOption-at_some, slice_get_within}
use Rattle.std.proofs.lemmas.List.{length-append, length-map, length_push}
use Rattle.dim_base.specs.declared.Tid.{Tid}
use Rattle.dim_base.specs.declared.Lid.{Lid}
use Rattle.dim_stack.specs.declared.Frame.{Frame}
use Rattle.dim_signature.specs.Sig.{Sig}
use Rattle.dim_signature.proofs.Exports.{length-sorted}
use Rattle.dim_rag.specs.declared.entry.Edge.{Edge}
use Rattle.dim_rag.specs.declared.entry.Named.{Named}
use Rattle.dim_rag.specs.declared.entry.Mode.{Mode}
use Rattle.dim_rag.specs.declared.entry.Mode.TheVariants.{Running, Allowed, Yielding, Ended}
use Rattle.dim_rag.specs.declared.entry.MissWhy.{MissWhy}
use Rattle.dim_rag.specs.declared.entry.MissWhy.TheVariants.{Busy, Avoid}
use Rattle.dim_rag.specs.declared.command.Refusal.TheVariants as refusal
use Rattle.dim_rag.specs.declared.command.Reply.TheVariants as reply
use Rattle.dim_rag.specs.declared.entry.Entry.{Entry}
use Rattle.dim_rag.specs.declared.entry.Entry.TheVariants.{Go, Yield, Got, Free, Took, Miss, End, Break, Learn}
use Rattle.dim_rag.specs.History.{mode, hold, count}
use Rattle.dim_rag.specs.Holder.{holder}
use Rattle.dim_rag.specs.Fits.{AreInRange}
use Rattle.dim_rag.specs.Born.{In, EdgesLaw, all_edges, edge_after, edge_born}
use Rattle.dim_rag.specs.Waits.{waits, WaitsLaw}
use Rattle.dim_rag.specs.Steps.{births, Step, walk, close, onward, WalkLaw, IsCycle, first_owner}
use Rattle.dim_rag.specs.Certificate.{cycle_fault, CertificateLaw}
use Rattle.dim_rag.specs.Starvation.{step, starvation_fault}
use Rattle.dim_rag.proofs.Exports.{in_parts, edge_on, holder_hold, found_edge, step_law, starvation_law, edge_below}
use Rattle.dim_cover.specs.Cover.{IsCover as Covers}
use Rattle.dim_cover.specs.Named.{with_new, named, IsNamed, NamedLaw}
use Rattle.dim_gate.specs.Gate.{Constants}
use Rattle.dim_gate.specs.Known.{Known, knowns, known_sigs, learnt, stack_at, stacks_of}
use Rattle.dim_gate.specs.Threads.{if_running, again_or, miss_or, avoid_or_took, refused, with}
use Rattle.dim_gate.specs.Legal.{Legal, IsLegalAfter}
use Rattle.dim_gate.proofs.Exports.{in_range, each_born, learn_two, legal_made, legal_yield}
use Rattle.dim_gate.specs.Starved.{learn_fault}
use Rattle.dim_trace.specs.Grammar.{IsBirth, AreBirths, IsCover, IsMissWhy}

-- ---- lists
at_place : {X : Type 0} (P : X → Type 0) (xs : List X) (i : ℕ) (x : X) → AllByRecursion P xs → slice_get xs i ≡ Some x → P x
at_place P [] i x a q = absurd (let n : None ≡ Some x = q in cc)
at_place P (y ∷ xs) zero x a q = subst P (let e : Some y ≡ Some x = q in cc) a.0
at_place P (y ∷ xs) (suc i) x a q = at_place P xs i x a.1 q

by_places : {X : Type 0} (P : X → Type 0) (xs : List X) → ((i : ℕ) (x : X) → slice_get xs i ≡ Some x → P x) → AllByRecursion P xs
by_places P [] f = tt
by_places P (x ∷ xs) f = (f 0 x refl, by_places P xs (λ i y q. f (suc i) y q))

both : {X : Type 0} (P : X → Type 0) (xs ys : List X) → AllByRecursion P xs → AllByRecursion P ys → AllByRecursion P (xs ++ ys)
both P [] ys a b = b
both P (x ∷ xs) ys a b = (a.0, both P xs ys a.1 b)

mapped : {X Y : Type 0} (P : Y → Type 0) (f : X → Y) (xs : List X) → AllByRecursion (λ x. P (f x)) xs → AllByRecursion P (map f xs)
mapped P f [] a = tt
mapped P f (x ∷ xs) a = (a.0, mapped P f xs a.1)

-- ---- covers
-- 2 to 32 stacks
abbrev pub HasFew : Sig → Type 0
HasFew s = (2 ≤ length s.stacks) × (length s.stacks ≤ 32)

cover_size : (d : ℕ) (es : List Edge) (ss : List (List Frame)) (c : List Edge) → Covers d es ss c → length (births c) ≡ length ss
cover_size d es [] [] k = refl
cover_size d es [] (e ∷ c) k = absurd k
cover_size d es (s ∷ ss) [] k = absurd k
cover_size d es (s ∷ ss) (e ∷ c) k = ap suc (cover_size d es ss c k.3)

cover_near : (d : ℕ) (es : List Edge) (ss : List (List Frame)) (c : List Edge) → ((e : Edge) → In e es → IsBirth e.birth) → Covers d es ss c → AllByRecursion IsBirth (births c)
cover_near d es [] [] f k = tt
cover_near d es [] (e ∷ c) f k = absurd k
cover_near d es (s ∷ ss) [] f k = absurd k
cover_near d es (s ∷ ss) (e ∷ c) f k = (f e k.0, cover_near d es ss c f k.3)

module _ (edges : EdgesLaw) (h : List Entry) (short : length h ≤ 1048575) where
  new_near : (new e : Edge) → new.birth ≡ length h → In e (with_new h new) → IsBirth e.birth
  new_near new e b i = elim (in_parts e (all_edges h) (new ∷ []) i) [
    | inl a ↦ let old : e.birth < length h = edges.old h e a in omega (arith, old, short)
    | inr a ↦ elim a [ inl q ↦ subst (λ (x : Edge). IsBirth x.birth) q (omega (arith, b, short)) | inr none ↦ absurd none ]
  ]

  -- a named cover, where at most 4,096 signatures are known
  pub named_cover : NamedLaw → (sigs : List Sig) (new : Edge) (n : Named) → AllByRecursion HasFew sigs → length sigs ≤ 4096 → new.birth ≡ length h → named sigs h new ≡ Some n → IsCover n
  named_cover law sigs new n sized few b q =
      let is : IsNamed (with_new h new) new.birth sigs n = MatchOption-at_some _ (IsNamed (with_new h new) new.birth sigs) n q (law sigs h new b) in
      let place : n.sig < length sigs = slice_get_within sigs n.sig is.sig is.sig_is in
      let size : length (births is.cover) ≡ length is.sig.stacks = cover_size is.sig.depth (with_new h new) is.sig.stacks is.cover is.is_cover in
      let of_sig : HasFew is.sig = at_place HasFew sigs n.sig is.sig sized is.sig_is in
      let told : AreBirths (births is.cover) = record {
        some = omega (arith, size, of_sig.0);
        few = omega (arith, size, of_sig.1);
        near = cover_near is.sig.depth (with_new h new) is.sig.stacks is.cover (λ e i. new_near new e b i) is.is_cover;
      } in
      record { sig = omega (arith, place, few); births = subst AreBirths is.births_are told }

-- ---- cycles and starvations
close_short : (b : ℕ) (so_far bs : List ℕ) → close b so_far ≡ Some bs → length bs ≤ suc (length so_far)
close_short b [] bs q = absurd (let n : None ≡ Some bs = q in cc)
close_short b (c ∷ so_far) bs q = let k : Some (b ∷ c ∷ so_far) ≡ Some bs = q in let e : b ∷ c ∷ so_far ≡ bs = cc in subst (λ (x : List ℕ). length x ≤ suc (length (c ∷ so_far))) e (omega arith)

-- a walk goes at most so many steps
walk_short : (s : Step) (t more at : ℕ) (so_far bs : List ℕ) → walk s t more at so_far ≡ Some bs → length bs ≤ length so_far + more
walk_short s t zero at so_far bs q = absurd (let n : None ≡ Some bs = q in cc)
walk_short s t (suc more) at so_far bs q = by_step (s at) q (λ e. walk_short s t more e.t.0 (so_far ++ e.birth ∷ []) bs)
  where
    by_tests : (e : Edge) (x y : Bool) → (if x then close e.birth so_far else (if y then None else walk s t more e.t.0 (so_far ++ e.birth ∷ []))) ≡ Some bs
        → (walk s t more e.t.0 (so_far ++ e.birth ∷ []) ≡ Some bs → length bs ≤ length (so_far ++ e.birth ∷ []) + more) → length bs ≤ length so_far + suc more
    by_tests e true y q f = let n : length bs ≤ suc (length so_far) = close_short e.birth so_far bs q in omega (arith, n)
    by_tests e false true q f = absurd (let n : None ≡ Some bs = q in cc)
    by_tests e false false q f = let n : length bs ≤ length (so_far ++ e.birth ∷ []) + more = f q in omega (arith, n, length_push so_far e.birth)

    by_step : (o : Option Edge) → onward t so_far (λ e. walk s t more e.t.0 (so_far ++ e.birth ∷ [])) o ≡ Some bs
        → ((e : Edge) → walk s t more e.t.0 (so_far ++ e.birth ∷ []) ≡ Some bs → length bs ≤ length (so_far ++ e.birth ∷ []) + more) → length bs ≤ length so_far + suc more
    by_step None q f = absurd (let n : None ≡ Some bs = q in cc)
    by_step (Some e) q f = by_tests e (eqb e.t.0 t) (ltb e.t.0 t) q (f e)

module _ (edges : EdgesLaw) (certificate : CertificateLaw) (walks : WalkLaw) (waits_law : WaitsLaw) (n m : ℕ) (few : n ≤ 32) where
  list_few : (s : Step) → ((t : ℕ) (e : Edge) → s t ≡ Some e → e.t.0 < n) → (c : List Edge) → IsCycle s c → length (births c) ≤ 32
  list_few s leads c k =
      let found = walks.complete s n leads c k in
      let short : length (births c) ≤ 0 + n = walk_short s (first_owner c) n (first_owner c) [] (births c) found in
      omega (arith, short, few)

  cycle_few : (h : List Entry) (bs : List ℕ) → AreInRange n m h → cycle_fault n m h bs ≡ None → length bs ≤ 32
  cycle_few h bs range q = let c = (certificate n m h range bs).0 q in subst (λ (x : List ℕ). length x ≤ 32) c.2 (list_few (waits n h) (λ t e w. waits_law n h t e w) c.0 c.1)

  starved_few : (h : List Entry) (bs : List ℕ) → AreInRange n m h → starvation_fault n m h bs ≡ None → length bs ≤ 32
  starved_few h bs range q = let c = (starvation_law n m h bs).0 q in subst (λ (x : List ℕ). length x ≤ 32) c.2 (list_few (step n m h) (λ t e w. step_law.thread n m h range t e w) c.0 c.1.cycle)

  learnt_few : (h : List Entry) (bs : List ℕ) → AreInRange n m h → learn_fault n m h bs ≡ None → length bs ≤ 32
  learnt_few h bs range q = go (starvation_fault n m h bs) refl q
    where
      go : (o : Option ℕ) → starvation_fault n m h bs ≡ o → (if is_none o then None else cycle_fault n m h bs) ≡ None → length bs ≤ 32
      go None s q = starved_few h bs range s
      go (Some i) s q = cycle_few h bs range q

  born_near : (h : List Entry) (p : ℕ) (o : Option Edge) → length h ≤ 1048575 → edge_born h p ≡ o → IsSome o → IsBirth p
  born_near h p None short q i = absurd (let x : false ≡ true = i in cc)
  born_near h p (Some x) short q i =
      let w = found_edge h p x q in
      let old : x.birth < length h = edges.old h x (edges.each h x w.0) in
      omega (arith, old, w.1, short)

  -- a cycle or a starvation that is learnt
  pub learnt_births : (h : List Entry) (bs : List ℕ) → length h ≤ 1048575 → AreInRange n m h → learn_fault n m h bs ≡ None → AreBirths bs
  learnt_births h bs short range q = record {
    some = learn_two n m h bs q;
    few = learnt_few h bs range q;
    near = by_places IsBirth bs (λ i p at. born_near h p (edge_born h p) short refl (each_born n m h bs q i p at));
  }

-- ---- known signatures
-- at most so many are known, and each has 2 to 32 stacks
pub record AreKnown (cap : ℕ) (ks : List Known) : Type 0 where
  pub few : length ks ≤ cap
  pub sized : AllByRecursion (λ k. HasFew k.sig) ks

module _ (edges : EdgesLaw) (certificate : CertificateLaw) (walks : WalkLaw) (waits_law : WaitsLaw) (c : Constants) (threads : c.threads ≤ 32) (room : length c.loaded ≤ c.cap) (loaded : AllByRecursion HasFew c.loaded) where
  at_start : AreKnown c.cap (knowns c.loaded c.depth [])
  at_start = record {
    few = let n : length (knowns c.loaded c.depth []) ≡ length c.loaded = length-map c.loaded (λ s. record { sig = s; since = 0 }) in omega (arith, n, room);
    sized = mapped (λ (k : Known). HasFew k.sig) (λ s. record { sig = s; since = 0 }) c.loaded loaded;
  }

  with_more : (ks more : List Known) → AreKnown c.cap ks → length ks + length more ≤ c.cap → AllByRecursion (λ k. HasFew k.sig) more → AreKnown c.cap (ks ++ more)
  with_more ks more a fits sized = record {
    few = omega (arith, fits, length-append ks more);
    sized = both (λ (k : Known). HasFew k.sig) ks more a.sized sized;
  }

  with_none : (ks : List Known) → AreKnown c.cap ks → AreKnown c.cap (ks ++ [])
  with_none ks a = with_more ks [] a (omega (arith, a.few)) tt

  with_cycle : (bs : List ℕ) (h : List Entry) → length h ≤ 1048575 → Legal c (Learn bs ∷ h) → AreKnown c.cap (knowns c.loaded c.depth h) → AreKnown c.cap (knowns c.loaded c.depth (Learn bs ∷ h))
  with_cycle bs h short k a =
      let m = legal_made c h (Learn bs) k.0 in
      let is : AreBirths bs = learnt_births edges certificate walks waits_law c.threads c.locks threads h bs short (in_range c h k.1) m.1 in
      let size : length (stacks_of bs h) ≡ length bs = length-sorted (map (λ b. stack_at b h) bs) ∙ length-map bs (λ b. stack_at b h) in
      let same : length (known_sigs c.loaded c.depth h) ≡ length (knowns c.loaded c.depth h) = length-map (knowns c.loaded c.depth h) (λ (x : Known). x.sig) in
      with_more (knowns c.loaded c.depth h) (learnt c.depth (Learn bs) h) a (omega (arith, same, m.3)) ((omega (arith, size, is.some), omega (arith, size, is.few)), tt)

  all_known : (h : List Entry) → length h ≤ 1048576 → Legal c h → AreKnown c.cap (knowns c.loaded c.depth h)
  all_known [] short k = at_start
  all_known (Learn bs ∷ h) short k = with_cycle bs h (omega (arith, short)) k (all_known h (omega (arith, short)) k.1)
  all_known (Go t l s ∷ h) short k = with_none (knowns c.loaded c.depth h) (all_known h (omega (arith, short)) k.1)
  all_known (Yield t l s sig bs ∷ h) short k = with_none (knowns c.loaded c.depth h) (all_known h (omega (arith, short)) k.1)
  all_known (Got t l ∷ h) short k = with_none (knowns c.loaded c.depth h) (all_known h (omega (arith, short)) k.1)
  all_known (Free t l ∷ h) short k = with_none (knowns c.loaded c.depth h) (all_known h (omega (arith, short)) k.1)
  all_known (Took t l s ∷ h) short k = with_none (knowns c.loaded c.depth h) (all_known h (omega (arith, short)) k.1)
  all_known (Miss t l s why ∷ h) short k = with_none (knowns c.loaded c.depth h) (all_known h (omega (arith, short)) k.1)
  all_known (End t why ∷ h) short k = with_none (knowns c.loaded c.depth h) (all_known h (omega (arith, short)) k.1)
  all_known (Break set t ∷ h) short k = with_none (knowns c.loaded c.depth h) (all_known h (omega (arith, short)) k.1)

  -- the cover that is named at a new edge after a legal history
  pub cover_after : NamedLaw → c.cap ≤ 4096 → (h : List Entry) (new : Edge) (n : Named) → length h ≤ 1048575 → Legal c h → new.birth ≡ length h → named (known_sigs c.loaded c.depth h) h new ≡ Some n → IsCover n
  cover_after law cap h new n short k b q =
      let known = all_known h (omega (arith, short)) k in
      let size : length (known_sigs c.loaded c.depth h) ≡ length (knowns c.loaded c.depth h) = length-map (knowns c.loaded c.depth h) (λ (x : Known). x.sig) in
      named_cover edges h short law (known_sigs c.loaded c.depth h) new n (mapped HasFew (λ (x : Known). x.sig) (knowns c.loaded c.depth h) known.sized) (omega (arith, size, known.few, cap)) b q

  -- ---- misses
  -- why a lock was not taken: some thread holds it, or a cover is named
  abbrev IsMissed : Tid → Lid → List Frame → List Entry → MissWhy → Type 0
  IsMissed t l s h (Busy u) = (x : Edge) × (holder c.threads l.0 h ≡ Some x) × (x.t ≡ u)
  IsMissed t l s h (Avoid n) = named (known_sigs c.loaded c.depth h) h (edge_after t l s h) ≡ Some n

  missed_by : (t : Tid) (l : Lid) (s : List Frame) (h : List Entry) (why : MissWhy) (r : Mode) (own o : Option Edge) (k : Option Named) → holder c.threads l.0 h ≡ o → named (known_sigs c.loaded c.depth h) h (edge_after t l s h) ≡ k
      → (if_running r (again_or t l s (count t.0 l.0 h) own (miss_or t l s o (avoid_or_took t l s k)))).entry ≡ Some (Miss t l s why) → IsMissed t l s h why
  missed_by t l s h why (Allowed x p) own o k a b q = absurd (let n : None ≡ Some (Miss t l s why) = q in cc)
  missed_by t l s h why (Yielding x p) own o k a b q = absurd (let n : None ≡ Some (Miss t l s why) = q in cc)
  missed_by t l s h why (Ended p) own o k a b q = absurd (let n : None ≡ Some (Miss t l s why) = q in cc)
  missed_by t l s h why Running (Some y) o k a b q = absurd (again (eqb (count t.0 l.0 h) 255) q)
    where
      again : (f : Bool) → (if f then refused (refusal.Own y.birth) else with reply.Took (Took t l s)).entry ≡ Some (Miss t l s why) → ⊥
      again true e = let n : None ≡ Some (Miss t l s why) = e in cc
      again false e = let n : Some (Took t l s) ≡ Some (Miss t l s why) = e in cc
  missed_by t l s h why Running None (Some x) k a b q =
      let e : Some (Miss t l s (Busy x.t)) ≡ Some (Miss t l s why) = q in
      let same : Busy x.t ≡ why = cc in
      subst (IsMissed t l s h) same (x, a, refl)
  missed_by t l s h why Running None None (Some n) a b q =
      let e : Some (Miss t l s (Avoid n)) ≡ Some (Miss t l s why) = q in
      let same : Avoid n ≡ why = cc in
      subst (IsMissed t l s h) same b
  missed_by t l s h why Running None None None a b q = absurd (let n : Some (Took t l s) ≡ Some (Miss t l s why) = q in cc)

  missed : (t : Tid) (l : Lid) (s : List Frame) (h : List Entry) (why : MissWhy) → IsLegalAfter c h (Miss t l s why) → IsMissed t l s h why
  missed t l s h why k = missed_by t l s h why (mode t.0 h) (hold t.0 l.0 h) (holder c.threads l.0 h) (named (known_sigs c.loaded c.depth h) h (edge_after t l s h)) refl refl k.entry_is

  told : NamedLaw → c.cap ≤ 4096 → (t : Tid) (l : Lid) (s : List Frame) (h : List Entry) (why : MissWhy) → length h ≤ 1048575 → Legal c h → IsMissed t l s h why → IsMissWhy why
  told law cap t l s h (Busy u) short k (x, held, same) =
      let w = holder_hold c.threads l.0 h x held in
      let below = edge_below c.threads c.locks h x (in_range c h k) (edge_on w.0 l.0 h x (inr w.1)).2 in
      subst (λ (v : Tid). v.0 ≤ 31) same (omega (arith, below.0, threads))
  told law cap t l s h (Avoid n) short k q = cover_after law cap h (edge_after t l s h) n short k refl q

  -- why a lock was not taken, as a legal entry tells it
  pub miss_why : NamedLaw → c.cap ≤ 4096 → (t : Tid) (l : Lid) (s : List Frame) (h : List Entry) (why : MissWhy) → length h ≤ 1048575 → Legal c h → IsLegalAfter c h (Miss t l s why) → IsMissWhy why
  miss_why law cap t l s h why short k e = told law cap t l s h why short k (missed t l s h why e)

  -- the cover that a legal entry tells
  pub yield_cover : NamedLaw → c.cap ≤ 4096 → (t : Tid) (l : Lid) (s : List Frame) (sig : ℕ) (bs : List ℕ) (h : List Entry) → length h ≤ 1048575 → Legal c h → IsLegalAfter c h (Yield t l s sig bs) → IsCover (record { sig = sig; births = bs })
  yield_cover law cap t l s sig bs h short k e = elim (legal_yield c h t l s sig bs e).1 [
    | inl m ↦ absurd (let q = m.0 in cc)
    | inr m ↦
        let same : Yield t l s m.0.sig m.0.births ≡ Yield t l s sig bs = m.1 in
        let sig_is : m.0.sig ≡ sig = cc in
        let births_are : m.0.births ≡ bs = cc in
        let is = cover_after law cap h (edge_after t l s h) m.0 short k refl m.2 in
        record { sig = omega (arith, sig_is, is.sig); births = subst AreBirths births_are is.births }
  ]

  pub learn_births : (bs : List ℕ) (h : List Entry) → length h ≤ 1048575 → Legal c h → IsLegalAfter c h (Learn bs) → AreBirths bs
  learn_births bs h short k e = learnt_births edges certificate walks waits_law c.threads c.locks threads h bs short (in_range c h k) (legal_made c h (Learn bs) e).1
