-- A new edge is linked at each depth once, from the youngest slot to the oldest: an older one goes on to a younger one that agrees.
use Rattle.std.proofs.Common.{◌≡◌, ℕ, zero, suc, ◌+◌, ◌<◌, true, cond, refl, ap, sym, ◌∙◌, subst, inl, inr, ◌⊎◌, arith, List, [], ◌∷◌, ◌++◌, length, take, drop, get_or, take-append-drop, drop-cons}
use Rattle.std.specs.Prelude.{nat_lt}
use Rattle.std.proofs.lemmas.Bool.{cases_Bool, false≢true}
use Rattle.dim_stack.specs.declared.Frame.{Frame}
use Rattle.dim_rag.specs.declared.entry.Edge.{Edge}
use Rattle.dim_rag.specs.Born.{In}
use Rattle.dim_rag.proofs.Exports.{in_right, in_parts}
use Rattle.dim_cover.specs.Cover.{agrees}
use Rattle.dim_cover.specs.Index.{AreDistinct, AreLinked, AreTurned, IsLink, common, edge_in, link, next_of, on_at, turned}
use Rattle.dim_cover.proofs.Groups.{same_frames, frames_same}
use Rattle.dim_cover.proofs.Common.{agree_common, lt_true}
use Rattle.dim_cover.proofs.Slots.{not_after}
use Rattle.dim_cover.proofs.Linked.{turned_other}

-- a slot goes on where a later one agrees
next_there : (edges : List Edge) (d s u : ℕ) (later : List ℕ) → In u later → agrees d (edge_in edges s).stack (edge_in edges u) ≡ true → ((x : ℕ) → In x later → x < 288) → next_of edges d s later ≡ 288 → ⊥
next_there edges d s u [] i a b e = absurd i
next_there edges d s u (j ∷ later) i a b e = elim (cases_Bool (agrees d (edge_in edges s).stack (edge_in edges j))) [
  | inl q ↦
      let last : j ≡ 288 = sym (ap (λ t. cond t j (next_of edges d s later)) q) ∙ e in
      let lt : j < 288 = b j (inl refl) in
      omega (arith, last, lt)
  | inr q ↦ elim i [
    | inl f ↦ false≢true (sym q ∙ ap (λ x. agrees d (edge_in edges s).stack (edge_in edges x)) f ∙ a)
    | inr k ↦ next_there edges d s u later k a (λ x m. b x (inr m)) (sym (ap (λ t. cond t j (next_of edges d s later)) q) ∙ e)
  ]
]

-- the links of a slot at a place
pub link_at : (edges : List Edge) (links : List (List ℕ)) (us : List ℕ) (i : ℕ) → i < length us → AreLinked edges links us → IsLink edges links (get_or us i 0) (drop (suc i) us)
link_at edges links [] i lt a = absurd (omega arith)
link_at edges links (u ∷ us) zero lt a = a.0
link_at edges links (u ∷ us) (suc i) lt a = link_at edges links us i (omega arith) a.1

module _ (edges : List Edge) (links : List (List ℕ)) (next : ℕ) (stack : List Frame) where
  -- where a later slot agrees with a new edge, the link stays
  pub stays : (s u d : ℕ) (later : List ℕ) → IsLink edges links s later → ((x : ℕ) → In x later → x < 288) → In u later → d < 32 → d < common stack (edge_in edges u).stack
      → on_at (common stack (edge_in edges s).stack) next d (link links s d) ≡ link links s d
  stays s u d later k b i low lt = elim (cases_Bool (nat_lt d (common stack (edge_in edges s).stack))) [
    | inl q ↦
        let own : take (d + 1) stack ≡ take (d + 1) (edge_in edges s).stack = same_frames _ _ (agree_common d stack (edge_in edges s).stack low ∙ q) in
        let its : take (d + 1) stack ≡ take (d + 1) (edge_in edges u).stack = same_frames _ _ (agree_common d stack (edge_in edges u).stack low ∙ lt_true d (common stack (edge_in edges u).stack) lt) in
        ap (λ t. cond t (turned 288 next (link links s d)) (link links s d)) q
        ∙ turned_other 288 next (link links s d) (λ e. next_there edges (d + 1) s u later i (frames_same _ _ (sym its ∙ own)) b (sym (k d low) ∙ e))
    | inr q ↦ ap (λ t. cond t (turned 288 next (link links s d)) (link links s d)) q
  ]

  -- so does each link of the older slots, where at each depth one agrees
  older_stay : (before later : List ℕ) → AreLinked edges links (before ++ later) → ((x : ℕ) → In x (before ++ later) → x < 288)
      → ((d : ℕ) → d < 32 → (u : ℕ) × In u later × (d < common stack (edge_in edges u).stack))
      → (s : ℕ) → In s before → (d : ℕ) → d < 32 → on_at (common stack (edge_in edges s).stack) next d (link links s d) ≡ link links s d
  older_stay [] later a b w s i d low = absurd i
  older_stay (x ∷ before) later a b w s (inl e) d low =
      let y = w d low in
      subst (λ z. on_at (common stack (edge_in edges z).stack) next d (link links z d) ≡ link links z d) e (stays x y.0 d (before ++ later) a.0 (λ z m. b z (inr m)) (in_right y.0 before later y.1) low y.2)
  older_stay (x ∷ before) later a b w s (inr i) d low = older_stay before later a.1 (λ z m. b z (inr m)) w s i d low

never_both : (before later : List ℕ) (s : ℕ) → AreDistinct (before ++ later) → In s before → In s later → ⊥
never_both [] later s a i j = i
never_both (x ∷ before) later s a (inl e) j = a.0 (in_right x before later (subst (λ z. In z later) (sym e) j))
never_both (x ∷ before) later s a (inr i) j = never_both before later s a.1 i j

-- where the links of the slots before a place stay, all are turned
all_turned : (slots : List ℕ) (left : ℕ) (turn : ℕ → ℕ → ℕ → ℕ) (old links : List (List ℕ)) → AreDistinct slots → AreTurned (drop left slots) turn old links
    → ((s : ℕ) → In s (take left slots) → (d : ℕ) → d < 32 → turn s d (link old s d) ≡ link old s d) → AreTurned slots turn old links
all_turned slots left turn old links distinct k same =
    let parts : take left slots ++ drop left slots ≡ slots = take-append-drop left slots in
    let apart : AreDistinct (take left slots ++ drop left slots) = subst AreDistinct (sym parts) distinct in
    record {
      done = λ s j d low. elim (in_parts s (take left slots) (drop left slots) (subst (λ (xs : List ℕ). In s xs) (sym parts) j)) [
        | inl before ↦ k.others s (λ m. never_both (take left slots) (drop left slots) s apart before m) d ∙ sym (same s before d low)
        | inr later ↦ k.done s later d low
      ];
      others = λ s j d. k.others s (λ m. j (subst (λ (xs : List ℕ). In s xs) parts (in_right s (take left slots) (drop left slots) m))) d;
    }

-- where one agrees at each depth, all are turned
pub turned_early : (edges : List Edge) (old links : List (List ℕ)) (next : ℕ) (stack : List Frame) (slots : List ℕ) (left : ℕ) → AreDistinct slots → AreLinked edges old slots → ((x : ℕ) → In x slots → x < 288)
    → ((d : ℕ) → d < 32 → (u : ℕ) × In u (drop left slots) × (d < common stack (edge_in edges u).stack))
    → AreTurned (drop left slots) (λ s d x. on_at (common stack (edge_in edges s).stack) next d x) old links → AreTurned slots (λ s d x. on_at (common stack (edge_in edges s).stack) next d x) old links
turned_early edges old links next stack slots left distinct linked within agree k =
    let parts : take left slots ++ drop left slots ≡ slots = take-append-drop left slots in
    all_turned slots left (λ s d x. on_at (common stack (edge_in edges s).stack) next d x) old links distinct k
    (older_stay edges old next stack (take left slots) (drop left slots) (subst (AreLinked edges old) (sym parts) linked) (λ x i. within x (subst (λ (xs : List ℕ). In x xs) parts i)) agree)

-- one slot before those that are turned
module _ (edges : List Edge) (old links : List (List ℕ)) (next : ℕ) (stack : List Frame) (slots : List ℕ) (left i linked : ℕ) (lower : suc i ≡ left) (lt : i < length slots) where
  abbrev here : ℕ
  here = get_or slots i 0

  pub link_stays : AreDistinct slots → AreLinked edges old slots → ((x : ℕ) → In x slots → x < 288) → AreTurned (drop left slots) (λ s d x. on_at (common stack (edge_in edges s).stack) next d x) old links
      → ((d : ℕ) → d < linked → (u : ℕ) × In u (drop left slots) × (d < common stack (edge_in edges u).stack))
      → (d : ℕ) → d < linked → d < 32 → link links here d ≡ on_at (common stack (edge_in edges here).stack) next d (link links here d)
  link_stays distinct followed within k agree d less low =
      let same : link links here d ≡ link old here d = k.others here (λ m. not_after slots i lt distinct (subst (λ n. In here (drop n slots)) (sym lower) m)) d in
      let w = agree d less in
      let later : In w.0 (drop (suc i) slots) = subst (λ n. In w.0 (drop n slots)) (sym lower) w.1 in
      same
      ∙ sym (stays edges old next stack here w.0 d (drop (suc i) slots) (link_at edges old slots i lt followed) (λ x m. within x (subst (λ (xs : List ℕ). In x xs) (take-append-drop (suc i) slots) (in_right x (take (suc i) slots) (drop (suc i) slots) m))) later low w.2)
      ∙ ap (on_at (common stack (edge_in edges here).stack) next d) (sym same)

  pub agree_more : ((d : ℕ) → d < linked → (u : ℕ) × In u (drop left slots) × (d < common stack (edge_in edges u).stack))
      → (d : ℕ) → ((d < linked) ⊎ (d < common stack (edge_in edges here).stack)) → (u : ℕ) × In u (drop i slots) × (d < common stack (edge_in edges u).stack)
  agree_more agree d (inl less) =
      let w = agree d less in
      (w.0, subst (λ (xs : List ℕ). In w.0 xs) (sym (drop-cons slots i 0 lt)) (inr (subst (λ n. In w.0 (drop n slots)) (sym lower) w.1)), w.2)
  agree_more agree d (inr less) = (here, subst (λ (xs : List ℕ). In here xs) (sym (drop-cons slots i 0 lt)) (inl refl), less)
