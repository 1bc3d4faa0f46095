-- What holds of the stacks of a history's entries holds of the stacks of its hold edges, so of those of its nestings and of its candidates.
use Rattle.std.proofs.Common.{◌≡◌, ℕ, ◌==◌, true, false, refl, sym, subst, inl, inr, List, [], ◌∷◌, length}
use Rattle.std.specs.Prelude.{Bool, if◌then◌else◌, IfSome, Option, Some, None, option_map}
use Rattle.std.specs.List.{AllByRecursion}
use Rattle.std.specs.Ordering.{is_le}
use Rattle.dim_base.specs.declared.Tid.{Tid}
use Rattle.dim_stack.specs.declared.Frame.{Frame}
use Rattle.dim_signature.specs.Sig.{Sig}
use Rattle.dim_signature.specs.Sorted.{stack_cmp, sorted}
use Rattle.dim_rag.specs.declared.entry.Edge.{Edge}
use Rattle.dim_rag.specs.declared.entry.Entry.{Entry}
use Rattle.dim_rag.specs.declared.entry.Entry.TheVariants.{Go, Yield, Got, Free, Took, Miss, End, Break, Learn}
use Rattle.dim_rag.specs.Born.{In}
use Rattle.dim_rag.specs.History.{past, Wish, latest_wish, is_about, last, edge_of_wish, grant, latest_grant, hold_by, hold}
use Rattle.dim_rag.proofs.Exports.{in_parts}
use Rattle.dim_vm.specs.Stacks.{stack_with}
use Rattle.dim_predict.specs.Nestings.{Nesting, nested_by, nestings_of}
use Rattle.dim_predict.specs.Candidates.{candidates_of}
use Rattle.dim_predict.proofs.Listing.{candidates_law}
use Rattle.dim_predict.proofs.Nesting.{from_nested, nestings_law}

some_if : {X : Type 0} (P : X → Type 0) (b : Bool) (x y : Option X) → IfSome x P → IfSome y P → IfSome (if b then x else y) P
some_if P true x y h k = h
some_if P false x y h k = k

some_is : {X : Type 0} (P : X → Type 0) (o : Option X) (x : X) → IfSome o P → o ≡ Some x → P x
some_is P o x h e = subst (λ z. IfSome z P) e h

module _ (S : List Frame → Type 0) where
  -- of the stacks of all entries
  abbrev pub AllAsk : List Entry → Type 0
  AllAsk h = AllByRecursion (λ e. S (stack_with e)) h

  abbrev IfEdge : Option Edge → Type 0
  IfEdge o = IfSome o (λ e. S e.stack)

  wish_has : (t : ℕ) (h : List Entry) → AllAsk h → IfSome (latest_wish t h) (λ w. S w.stack)
  wish_has t [] a = tt
  wish_has t (Yield u l s sig births ∷ h) a = some_if (λ w. S w.stack) (u.0 == t) _ (latest_wish t h) a.0 (wish_has t h a.1)
  wish_has t (Go u l s ∷ h) a = wish_has t h a.1
  wish_has t (Got u l ∷ h) a = wish_has t h a.1
  wish_has t (Free u l ∷ h) a = wish_has t h a.1
  wish_has t (Took u l s ∷ h) a = wish_has t h a.1
  wish_has t (Miss u l s why ∷ h) a = wish_has t h a.1
  wish_has t (End u why ∷ h) a = wish_has t h a.1
  wish_has t (Break set u ∷ h) a = wish_has t h a.1
  wish_has t (Learn births ∷ h) a = wish_has t h a.1

  granted_wish : (t : Tid) (place : ℕ) (o : Option Wish) → IfSome o (λ w. S w.stack) → IfEdge (option_map (edge_of_wish t place) o)
  granted_wish t place None h = tt
  granted_wish t place (Some w) h = h

  latest_has : (t l : ℕ) (h : List Entry) → AllAsk h → IfEdge (latest_grant t l h)
  latest_has t l [] a = tt
  latest_has t l (Go u m s ∷ h) a = some_if (λ e. S e.stack) (is_about t l (Go u m s) h) (grant (Go u m s ∷ h)) (latest_grant t l h) a.0 (latest_has t l h a.1)
  latest_has t l (Break set u ∷ h) a = some_if (λ e. S e.stack) (is_about t l (Break set u) h) (grant (Break set u ∷ h)) (latest_grant t l h) (granted_wish u (length h) (latest_wish u.0 h) (wish_has u.0 h a.1)) (latest_has t l h a.1)
  latest_has t l (Yield u m s sig births ∷ h) a = latest_has t l h a.1
  latest_has t l (Got u m ∷ h) a = latest_has t l h a.1
  latest_has t l (Free u m ∷ h) a = latest_has t l h a.1
  latest_has t l (Took u m s ∷ h) a = latest_has t l h a.1
  latest_has t l (Miss u m s why ∷ h) a = latest_has t l h a.1
  latest_has t l (End u why ∷ h) a = latest_has t l h a.1
  latest_has t l (Learn births ∷ h) a = latest_has t l h a.1

  either : (b : Bool) (g h : List Entry) → AllAsk g → AllAsk h → AllAsk (if b then g else h)
  either true g h a c = a
  either false g h a c = c

  last_has : (t l : ℕ) (h : List Entry) → AllAsk h → AllAsk (last t l h)
  last_has t l [] a = tt
  last_has t l (e ∷ h) a = either (is_about t l e h) (e ∷ h) (last t l h) a (last_has t l h a.1)

  held_by : (t l : ℕ) (h : List Entry) → AllAsk h → IfEdge (hold_by t l h)
  held_by t l [] a = tt
  held_by t l (Got u m ∷ h) a = latest_has t l h a.1
  held_by t l (Took u m s ∷ h) a = a.0
  held_by t l (Go u m s ∷ h) a = tt
  held_by t l (Yield u m s sig births ∷ h) a = tt
  held_by t l (Free u m ∷ h) a = tt
  held_by t l (Miss u m s why ∷ h) a = tt
  held_by t l (End u why ∷ h) a = tt
  held_by t l (Break set u ∷ h) a = tt
  held_by t l (Learn births ∷ h) a = tt

  -- a hold edge
  hold_has : (t l : ℕ) (h : List Entry) (e : Edge) → AllAsk h → hold t l h ≡ Some e → S e.stack
  hold_has t l h e a q = some_is (λ x. S x.stack) (hold t l h) e (held_by t l (last t l h) (last_has t l h a)) q

  -- a nesting
  nesting_has : (h : List Entry) (n : Nesting) → AllAsk h → In n (nestings_of h) → S n.content.stack
  nesting_has [] n a i = absurd i
  nesting_has (e ∷ h) n a i = elim (in_parts n (nestings_of h) (nested_by h (grant (e ∷ h))) i) [
    | inl j ↦ nesting_has h n a.1 j
    | inr j ↦
        let f = from_nested e h n (grant (e ∷ h)) refl j in
        subst (λ (x : Nesting). S x.content.stack) (sym f.5) (hold_has f.0.t.0 f.1.l.0 h f.1 a.1 f.3)
  ]

  either_stacks : (b : Bool) (xs ys : List (List Frame)) → AllByRecursion S xs → AllByRecursion S ys → AllByRecursion S (if b then xs else ys)
  either_stacks true xs ys h k = h
  either_stacks false xs ys h k = k

  sorted_two : (s t : List Frame) → S s → S t → AllByRecursion S (sorted (s ∷ t ∷ []))
  sorted_two s t h k = either_stacks (is_le (stack_cmp s t)) (s ∷ t ∷ []) (t ∷ s ∷ []) (h, (k, tt)) (k, (h, tt))

  -- a candidate
  pub candidate_has : (loaded : List Sig) (depth : ℕ) (entries : List Entry) (s : Sig) → AllAsk (past entries) → In s (candidates_of loaded depth entries) → AllByRecursion S s.stacks
  candidate_has loaded depth entries s a i =
      let c = candidates_law.each loaded depth entries s i in
      let one = nesting_has (past entries) c.0 a ((nestings_law.exact entries c.0).1 c.2.first) in
      let two = nesting_has (past entries) c.1 a ((nestings_law.exact entries c.1).1 c.2.second) in
      subst (λ (x : Sig). AllByRecursion S x.stacks) (sym c.3) (sorted_two c.0.content.stack c.1.content.stack one two)
