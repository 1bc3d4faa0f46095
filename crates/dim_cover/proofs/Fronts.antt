-- Edges that agree have their innermost frames, and their two innermost frames, in one bucket.
use Rattle.std.proofs.Common.{◌≡◌, ℕ, zero, suc, ◌+◌, ◌-◌, ◌<◌, ◌≤◌, ◌⊎◌, true, false, cond, eqb, refl, ap, sym, ◌∙◌, subst, inl, inr, arith, List, [], ◌∷◌, ◌++◌, length, take, drop, get_or, set, get_or-set_other, filter}
use Rattle.std.specs.Prelude.{All, nat_lt, replicate}
use Rattle.std.specs.Cmp.Lexicographic.{pointwise}
use Rattle.std.proofs.Math.ListN.{length-set}
use Rattle.std.proofs.lemmas.Bool.{cases_Bool, cases_lt, eq-eqb, ne_eqb}
use Rattle.std.proofs.lemmas.Bool.Decides.{nat_tests}
use Rattle.std.proofs.lemmas.List.{get_or-replicate, get_or_default, length-map, length-replicate}
use Rattle.std.proofs.lemmas.List.Elements.{All-get_or}
use Rattle.std.proofs.lemmas.Grind.{get_or-set_at}
use Rattle.dim_stack.specs.declared.Frame.{Frame}
use Rattle.dim_stack.specs.Order.{frame_eq}
use Rattle.dim_rag.specs.declared.entry.Edge.{Edge}
use Rattle.dim_rag.specs.Born.{In}
use Rattle.dim_cover.specs.Cover.{agrees}
use Rattle.dim_cover.specs.Index.{AreCounts, AreLinked, AreTurned, GoOnNear, AreSlots, common, counted, edge_in, edges_in, first_bucket, front, fronted, link, next_of, no_edge, on_at, pair, pair_bucket, turned}
use Rattle.dim_cover.proofs.Common.{agree_common, lt_zero}
use Rattle.dim_cover.proofs.Groups.{frames_same, same_frames}
use Rattle.dim_cover.proofs.Kept.{in_front}
use Rattle.dim_cover.proofs.Linked.{turned_other}
use Rattle.dim_cover.proofs.Slots.{in_place}

none_below : (n : ℕ) → nat_lt 0 n ≡ false → n ≡ 0
none_below n q = grind (arith, nat_tests)

front_of : (d : ℕ) (a : List Frame) → take 1 (take (suc d) a) ≡ take 1 a
front_of d [] = refl
front_of d (x ∷ a) = refl

-- stacks that agree have one innermost frame
same_first : (d : ℕ) (a b : List Frame) → pointwise frame_eq (take (d + 1) a) (take (d + 1) b) ≡ true → take 1 a ≡ take 1 b
same_first d a b q =
    let deep : d + 1 ≡ suc d = omega arith in
    let same : take (suc d) a ≡ take (suc d) b = same_frames _ _ (ap (λ n. pointwise frame_eq (take n a) (take n b)) (sym deep) ∙ q) in
    sym (front_of d a) ∙ ap (take 1) same ∙ front_of d b

-- those of two buckets agree nowhere
apart_common : (a b : List Frame) → (front a ≡ front b → ⊥) → common a b ≡ 0
apart_common a b n = elim (cases_Bool (pointwise frame_eq (take 1 a) (take 1 b))) [
  | inl q ↦ absurd (n (ap first_bucket (same_first 0 a b q)))
  | inr q ↦ none_below (common a b) (sym (agree_common 0 a b (omega arith)) ∙ q)
]

-- one edge after another
module _ (f : List Frame → ℕ) where
  abbrev own : ℕ → Edge → ℕ
  own b e = cond (eqb (f e.stack) b) 1 0

  counted_first : (b : ℕ) (e : Edge) (es : List Edge) → counted f b (e ∷ es) ≡ own b e + counted f b es
  counted_first b e es = elim (cases_Bool (eqb (f e.stack) b)) [
    | inl q ↦
        let here : own b e ≡ 1 = ap (λ t. cond t 1 0) q in
        let all : counted f b (e ∷ es) ≡ suc (counted f b es) = ap (λ t. length (cond t (e ∷ filter (λ (x : Edge). eqb (f x.stack) b) es) (filter (λ (x : Edge). eqb (f x.stack) b) es))) q in
        omega (arith, here, all)
    | inr q ↦
        let here : own b e ≡ 0 = ap (λ t. cond t 1 0) q in
        let all : counted f b (e ∷ es) ≡ counted f b es = ap (λ t. length (cond t (e ∷ filter (λ (x : Edge). eqb (f x.stack) b) es) (filter (λ (x : Edge). eqb (f x.stack) b) es))) q in
        omega (arith, here, all)
  ]

  own_there : (b : ℕ) (e : Edge) → f e.stack ≡ b → own b e ≡ 1
  own_there b e q = ap (λ t. cond t 1 0) (eq-eqb (f e.stack) b q)

  own_other : (b : ℕ) (e : Edge) → (b ≡ f e.stack → ⊥) → own b e ≡ 0
  own_other b e n = ap (λ t. cond t 1 0) (ne_eqb (f e.stack) b (λ q. n (sym q)))

  counted_push : (b : ℕ) (es : List Edge) (e : Edge) → counted f b (es ++ e ∷ []) ≡ counted f b es + own b e
  counted_push b [] e = (let k = counted_first b e [] in omega (arith, k))
  counted_push b (x ∷ es) e =
      let k = counted_push b es e in
      let first = counted_first b x es in
      let all = counted_first b x (es ++ e ∷ []) in
      omega (arith, k, first, all)

cases_at : (b c : ℕ) → (b ≡ c) ⊎ (b ≡ c → ⊥)
cases_at b c = elim (cases_lt b c) [
  | inl lt ↦ inr (λ e. omega (arith, lt, e))
  | inr le ↦ elim (cases_lt c b) [ inl lt ↦ inr (λ e. omega (arith, lt, e)) | inr ge ↦ inl (omega (arith, le, ge)) ]
]

-- a stack agrees with no edge of another bucket of innermost frames
other_front : (d : ℕ) (s : List Frame) (e : Edge) → 1 ≤ d → (front e.stack ≡ front s → ⊥) → agrees d s e ≡ false
other_front d s e low n = elim (cases_Bool (agrees d s e)) [
  | inl a ↦
      let deep : d ≡ d - 1 + 1 = omega (arith, low) in
      absurd (n (ap first_bucket (same_first (d - 1) e.stack s (ap (λ m. pointwise frame_eq (take m e.stack) (take m s)) (sym deep) ∙ a))))
  | inr a ↦ a
]

pair_of : (d : ℕ) (a : List Frame) → take 2 (take (suc (suc d)) a) ≡ take 2 a
pair_of d [] = refl
pair_of d (x ∷ []) = refl
pair_of d (x ∷ y ∷ a) = refl

-- nor, at depth 2 and beyond, with one of another bucket of two
pub other_pair : (d : ℕ) (s : List Frame) (e : Edge) → 2 ≤ d → (pair e.stack ≡ pair s → ⊥) → agrees d s e ≡ false
other_pair d s e low n = elim (cases_Bool (agrees d s e)) [
  | inl a ↦
      let deep : d ≡ suc (suc (d - 2)) = omega (arith, low) in
      let same : take (suc (suc (d - 2))) e.stack ≡ take (suc (suc (d - 2))) s = same_frames _ _ (ap (λ m. pointwise frame_eq (take m e.stack) (take m s)) (sym deep) ∙ a) in
      absurd (n (ap pair_bucket (sym (pair_of (d - 2) e.stack) ∙ ap (take 2) same ∙ pair_of (d - 2) s)))
  | inr a ↦ a
]

-- where its bucket has no edge, it agrees with none of them
none_in : (f : List Frame → ℕ) (d : ℕ) (s : List Frame) → ((e : Edge) → (f e.stack ≡ f s → ⊥) → agrees d s e ≡ false) → (es : List Edge) → counted f (f s) es ≡ 0 → filter (agrees d s) es ≡ []
none_in f d s other [] q = refl
none_in f d s other (x ∷ es) q =
    let first = counted_first f (f s) x es in
    let apart : agrees d s x ≡ false = other x (λ w. let one = own_there f (f s) x w in omega (arith, q, first, one)) in
    ap (λ t. cond t (x ∷ filter (agrees d s) es) (filter (agrees d s) es)) apart
    ∙ none_in f d s other es (omega (arith, q, first))

pub none_by_front : (d : ℕ) (s : List Frame) (es : List Edge) → 1 ≤ d → counted front (front s) es ≡ 0 → filter (agrees d s) es ≡ []
none_by_front d s es low q = none_in front d s (λ e n. other_front d s e low n) es q

pub none_by_pair : (d : ℕ) (s : List Frame) (es : List Edge) → 2 ≤ d → counted pair (pair s) es ≡ 0 → filter (agrees d s) es ≡ []
none_by_pair d s es low q = none_in pair d s (λ e n. other_pair d s e low n) es q

-- nor with one more that doesn't agree
pub none_agree : (d : ℕ) (s : List Frame) (es : List Edge) (e : Edge) → filter (agrees d s) es ≡ [] → agrees d s e ≡ false → filter (agrees d s) (es ++ e ∷ []) ≡ []
none_agree d s [] e none far = ap (λ t. cond t (e ∷ []) []) far
none_agree d s (x ∷ es) e none far = elim (cases_Bool (agrees d s x)) [
  | inl a ↦ absurd (let k : x ∷ filter (agrees d s) es ≡ [] = sym (ap (λ t. cond t (x ∷ filter (agrees d s) es) (filter (agrees d s) es)) a) ∙ none in cc)
  | inr a ↦
      ap (λ t. cond t (x ∷ filter (agrees d s) (es ++ e ∷ [])) (filter (agrees d s) (es ++ e ∷ []))) a
      ∙ none_agree d s es e (sym (ap (λ t. cond t (x ∷ filter (agrees d s) es) (filter (agrees d s) es)) a) ∙ none) far
]

pub no_counts : (f : List Frame → ℕ) → AreCounts f (replicate 4096 0) []
no_counts f = record { size = length-replicate {A = ℕ} 4096 0; each = λ b low. get_or-replicate 4096 b 0 0 low }

-- one count is read, and one changes
module _ (f : List Frame → ℕ) (counts : List ℕ) (es : List Edge) (k : AreCounts f counts es) (b : ℕ) (low : b < 4096) where
  pub count_at : (n : ℕ) → n ≡ get_or counts b n → n ≡ counted f b es
  count_at n at = at ∙ get_or_default counts b n 0 (omega (arith, low, k.size)) ∙ k.each b low

  set_count : (es' : List Edge) (n : ℕ) → n ≡ counted f b es' → ((c : ℕ) → (c ≡ b → ⊥) → counted f c es' ≡ counted f c es) → AreCounts f (set counts b n) es'
  set_count es' n here others = record {
    size = length-set counts b n ∙ k.size;
    each = λ c small. elim (cases_at c b) [
      | inl q ↦ get_or-set_at counts b c n 0 q (omega (arith, low, k.size)) ∙ here ∙ ap (λ x. counted f x es') (sym q)
      | inr q ↦ get_or-set_other counts b c n 0 q ∙ k.each c small ∙ sym (others c q)
    ];
  }

  pub counts_more : (n : ℕ) (e : Edge) → n ≡ counted f b es → b ≡ f e.stack → AreCounts f (set counts b (n + 1)) (es ++ e ∷ [])
  counts_more n e was is =
      set_count (es ++ e ∷ []) (n + 1) (let more = counted_push f b es e in let one = own_there f b e (sym is) in omega (arith, was, more, one))
      (λ c q. let more = counted_push f c es e in let none = own_other f c e (λ g. q (g ∙ sym is)) in omega (arith, more, none))

module _ (f : List Frame → ℕ) (edges : List Edge) where
  counted_at : (b : ℕ) (us : List ℕ) (i : ℕ) → i < length us → counted f b (edges_in edges us) ≡ own f b (edge_in edges (get_or us i 0)) + counted f b (edges_in edges (take i us ++ drop (suc i) us))
  counted_at b [] i lt = absurd (omega arith)
  counted_at b (u ∷ us) zero lt = counted_first f b (edge_in edges u) (edges_in edges us)
  counted_at b (u ∷ us) (suc i) lt =
      let k = counted_at b us i (omega (arith, lt)) in
      let all = counted_first f b (edge_in edges u) (edges_in edges us) in
      let rest = counted_first f b (edge_in edges u) (edges_in edges (take i us ++ drop (suc i) us)) in
      omega (arith, k, all, rest)

  pub counts_less : (counts us : List ℕ) (i b n : ℕ) → i < length us → b < 4096 → b ≡ f (edge_in edges (get_or us i 0)).stack → n ≡ counted f b (edges_in edges us) → AreCounts f counts (edges_in edges us)
      → AreCounts f (set counts b (n - 1)) (edges_in edges (take i us ++ drop (suc i) us))
  counts_less counts us i b n lt low is was k =
      set_count f counts (edges_in edges us) k b low (edges_in edges (take i us ++ drop (suc i) us)) (n - 1)
      (let all = counted_at b us i lt in let one = own_there f b (edge_in edges (get_or us i 0)) (sym is) in omega (arith, was, all, one))
      (λ c q. let all = counted_at c us i lt in let none = own_other f c (edge_in edges (get_or us i 0)) (λ g. q (g ∙ sym is)) in omega (arith, all, none))

  -- the bucket that is read of an edge in a slot at a place
  pub bucket_at : (us : List ℕ) (i : ℕ) → i < length us → All (λ s. s < length edges) us → (b s : ℕ) (e : Edge) → s ≡ get_or us i s → e ≡ get_or edges s e → b ≡ f e.stack → b ≡ f (edge_in edges (get_or us i 0)).stack
  bucket_at us i lt within b s e slot at is =
      let here : s ≡ get_or us i 0 = slot ∙ get_or_default us i s 0 lt in
      let low : get_or us i 0 < length edges = All-get_or (λ x. x < length edges) us i 0 lt within in
      let below : s < length edges = omega (arith, here, low) in
      is ∙ ap (λ (x : Edge). f x.stack) (at ∙ get_or_default edges s e no_edge below) ∙ ap (λ x. f (edge_in edges x).stack) here

  -- a slot in use counts
  pub some_at : (b n : ℕ) (us : List ℕ) (i : ℕ) → i < length us → b ≡ f (edge_in edges (get_or us i 0)).stack → n ≡ counted f b (edges_in edges us) → 1 ≤ n
  some_at b n us i lt is was = (let all = counted_at b us i lt in let one = own_there f b (edge_in edges (get_or us i 0)) (sym is) in omega (arith, was, all, one))

module _ (edges : List Edge) where
  -- where a bucket has no edge, no slot's is in it
  none_there : (b : ℕ) (us : List ℕ) → fronted b (edges_in edges us) ≡ 0 → (u : ℕ) → In u us → front (edge_in edges u).stack ≡ b → ⊥
  none_there b [] q u i f = i
  none_there b (v ∷ us) q u (inl e) f =
      let first = counted_first front b (edge_in edges v) (edges_in edges us) in
      let one = own_there front b (edge_in edges v) (ap (λ x. front (edge_in edges x).stack) e ∙ f) in
      omega (arith, q, first, one)
  none_there b (v ∷ us) q u (inr i) f = none_there b us (let first = counted_first front b (edge_in edges v) (edges_in edges us) in omega (arith, q, first)) u i f

  -- where it has one, no other slot's is
  alone : (b : ℕ) (us : List ℕ) (i : ℕ) → i < length us → front (edge_in edges (get_or us i 0)).stack ≡ b → fronted b (edges_in edges us) ≤ 1 → (u : ℕ) → In u (take i us) → front (edge_in edges u).stack ≡ b → ⊥
  alone b [] i lt g few u j f = omega (arith, lt)
  alone b (v ∷ us) zero lt g few u j f = j
  alone b (v ∷ us) (suc i) lt g few u (inl e) f =
      let first = counted_first front b (edge_in edges v) (edges_in edges us) in
      let one = own_there front b (edge_in edges v) (ap (λ x. front (edge_in edges x).stack) e ∙ f) in
      none_there b us (omega (arith, few, first, one)) (get_or us i 0) (in_place us i (omega (arith, lt))) g
  alone b (v ∷ us) (suc i) lt g few u (inr j) f =
      alone b us i (omega (arith, lt)) g (let first = counted_first front b (edge_in edges v) (edges_in edges us) in omega (arith, few, first)) u j f

  -- where none is near, the links stay as an edge comes
  pub on_nothing : (stack : List Frame) (next : ℕ) (us : List ℕ) (links : List (List ℕ)) → fronted (front stack) (edges_in edges us) ≡ 0 → AreTurned us (λ s d x. on_at (common stack (edge_in edges s).stack) next d x) links links
  on_nothing stack next us links q = record {
    done = λ s j d low. sym (ap (λ n. on_at n next d (link links s d)) (apart_common stack (edge_in edges s).stack (λ f. none_there (front stack) us q s j (sym f)))
        ∙ ap (λ t. cond t (turned 288 next (link links s d)) (link links s d)) (lt_zero d));
    others = λ s j d. refl;
  }

  -- a link goes on to a slot that agrees
  next_agrees : (d s : ℕ) (us : List ℕ) (g : ℕ) → next_of edges d s us ≡ g → (g ≡ 288 → ⊥) → agrees d (edge_in edges s).stack (edge_in edges g) ≡ true
  next_agrees d s [] g q n = absurd (n (sym q))
  next_agrees d s (j ∷ us) g q n = elim (cases_Bool (agrees d (edge_in edges s).stack (edge_in edges j))) [
    | inl b ↦ subst (λ x. agrees d (edge_in edges s).stack (edge_in edges x) ≡ true) (sym (ap (λ t. cond t j (next_of edges d s us)) b) ∙ q) b
    | inr b ↦ next_agrees d s us g (sym (ap (λ t. cond t j (next_of edges d s us)) b) ∙ q) n
  ]

  -- so both have one innermost frame
  pub near_only : (links : List (List ℕ)) (us : List ℕ) → AreLinked edges links us → (g : ℕ) → g < 288 → GoOnNear edges links us g
  near_only links [] a g lt u i d low q = absurd i
  near_only links (v ∷ us) a g lt u (inl e) d low q =
      let leads : next_of edges (d + 1) v us ≡ g = sym (a.0 d low) ∙ ap (λ x. link links x d) e ∙ q in
      let first : take 1 (edge_in edges g).stack ≡ take 1 (edge_in edges v).stack = same_first d (edge_in edges g).stack (edge_in edges v).stack (next_agrees (d + 1) v us g leads (λ z. omega (arith, lt, z))) in
      frames_same _ _ (ap (λ x. take 1 (edge_in edges x).stack) (sym e) ∙ sym first)
  near_only links (v ∷ us) a g lt u (inr i) d low q = near_only links us a.1 g lt u i d low q

  -- where no other is near, the links stay as an edge goes
  pub past_nothing : (us : List ℕ) (links : List (List ℕ)) (i : ℕ) → i < length us → get_or us i 0 < 288 → AreLinked edges links us → fronted (front (edge_in edges (get_or us i 0)).stack) (edges_in edges us) ≤ 1
      → AreTurned (take i us) (λ s d x. turned (get_or us i 0) (link links (get_or us i 0) d) x) links links
  past_nothing us links i lt slot a few =
      let g : ℕ = get_or us i 0 in
      record {
        done = λ s j d low. sym (turned_other g (link links g d) (link links s d) (λ e. alone (front (edge_in edges g).stack) us i lt refl few s j (ap first_bucket (same_frames (take 1 (edge_in edges s).stack) (take 1 (edge_in edges g).stack) (near_only links us a g slot s (in_front us i s j) d low e)))));
        others = λ s j d. refl;
      }

-- a count is small
pub few_counted : (f : List Frame → ℕ) (edges : List Edge) (links : List (List ℕ)) (used free : List ℕ) (b : ℕ) → AreSlots used free edges links → counted f b (edges_in edges used) ≤ 288
few_counted f edges links used free b k =
    let size : length (edges_in edges used) ≡ length used = length-map used (edge_in edges) in
    let le = few b (edges_in edges used) in
    omega (arith, size, le, k.slots, k.few)
  where
    few : (b : ℕ) (es : List Edge) → counted f b es ≤ length es
    few b [] = omega arith
    few b (e ∷ es) = elim (cases_Bool (eqb (f e.stack) b)) [
      | inl q ↦ (let k = few b es in let first = counted_first f b e es in let one : own f b e ≡ 1 = ap (λ t. cond t 1 0) q in omega (arith, k, first, one))
      | inr q ↦ (let k = few b es in let first = counted_first f b e es in let one : own f b e ≡ 0 = ap (λ t. cond t 1 0) q in omega (arith, k, first, one))
    ]
