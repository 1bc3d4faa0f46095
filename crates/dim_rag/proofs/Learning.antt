-- A Learn changes no edge, no mode and no step.
use Rattle.std.proofs.Common.{◌≡◌, ℕ, zero, suc, ◌+◌, ◌&&◌, refl, ap, ◌∙◌, List, [], ◌∷◌, ◌++◌, length, take, append-nil, get_or}
use Rattle.std.specs.Prelude.{◌==◌, Option, Some, None, is_some, is_none, nat_lt, not, if◌then◌else◌}
use Rattle.std.specs.Option.{option_or, option_and_then, option_to_list}
use Rattle.std.specs.List.{find, list_any}
use Rattle.dim_rag.specs.declared.entry.Edge.{Edge}
use Rattle.dim_rag.specs.declared.entry.Entry.{Entry}
use Rattle.dim_rag.specs.declared.entry.Entry.TheVariants.{Go, Yield, Got, Free, Took, Miss, End, Break, Learn}
use Rattle.dim_rag.specs.declared.entry.Mode.{Mode}
use Rattle.dim_rag.specs.declared.entry.Mode.TheVariants.{Running, Allowed, Yielding, Ended}
use Rattle.dim_rag.specs.History.{allow, hold, mode, latest_wish, Wish}
use Rattle.dim_rag.specs.Holder.{holder, or_else}
use Rattle.dim_rag.specs.Edges.{edges_of, edges, standing, standing_in}
use Rattle.dim_rag.specs.Born.{born, edge_of_wish_at, granted_by, all_edges, edge_born}
use Rattle.dim_rag.specs.Waits.{waits, waits_by}
use Rattle.dim_rag.specs.Steps.{run_into}
use Rattle.dim_rag.specs.Stuck.{is_member, is_owner_in, edges_in, is_held_by, is_held, first_free, stale, holds, holds_more, may_choose, choice}
use Rattle.dim_rag.specs.FirstFailing.{first_failing}
use Rattle.dim_rag.specs.Certificate.{passes_at}
use Rattle.dim_rag.specs.Starvation.{step, is_on, has_new_lock, is_of_yielder, someone_yields, starves_at, starvation_fault, if_starvation, starved_from, starved}

module _ (b : List ℕ) (h : List Entry) where
  abbrev g : List Entry
  g = Learn b ∷ h

  -- ---- edges
  pub holder_same : (n l : ℕ) → holder n l g ≡ holder n l h
  holder_same zero l = refl
  holder_same (suc n) l = ap (λ o. or_else o (hold n l h)) (holder_same n l)

  edges_of_same : (t m : ℕ) → edges_of t m g ≡ edges_of t m h
  edges_of_same t zero = refl
  edges_of_same t (suc m) = ap (λ es. es ++ option_to_list (allow t m h) ++ option_to_list (hold t m h)) (edges_of_same t m)

  edges_same : (n m : ℕ) → edges n m g ≡ edges n m h
  edges_same zero m = refl
  edges_same (suc n) m = ap (λ es. es ++ edges_of n m g) (edges_same n m) ∙ ap (λ es. edges n m h ++ es) (edges_of_same n m)

  edges_in_same : (set n m : ℕ) → edges_in set n m g ≡ edges_in set n m h
  edges_in_same set zero m = refl
  edges_in_same set (suc n) m =
      ap (λ es. es ++ (if is_member set n then edges_of n m g else [])) (edges_in_same set n m)
      ∙ ap (λ es. edges_in set n m h ++ (if is_member set n then es else [])) (edges_of_same n m)

  wish_same : (p t : ℕ) (o : Option Wish) → edge_of_wish_at g p t o ≡ edge_of_wish_at h p t o
  wish_same p t None = refl
  wish_same p t (Some w) = refl

  born_same : (e : Entry) (before : List Entry) → born g e before ≡ born h e before
  born_same (Go t l s) before = refl
  born_same (Took t l s) before = refl
  born_same (Break set t) before = wish_same (length before) t.0 (latest_wish t.0 before)
  born_same (Yield t l s sig births) before = refl
  born_same (Got t l) before = refl
  born_same (Free t l) before = refl
  born_same (Miss t l s why) before = refl
  born_same (End t why) before = refl
  born_same (Learn births) before = refl

  granted_same : (before : List Entry) → granted_by g before ≡ granted_by h before
  granted_same [] = refl
  granted_same (e ∷ before) = ap (λ es. es ++ option_to_list (born g e before)) (granted_same before) ∙ ap (λ o. granted_by h before ++ option_to_list o) (born_same e before)

  pub all_same : all_edges g ≡ all_edges h
  all_same = ap (λ (es : List Edge). es ++ []) (granted_same h) ∙ append-nil (granted_by h h)

  pub edge_same : (p : ℕ) → edge_born g p ≡ edge_born h p
  edge_same p = ap (λ es. find (λ (e : Edge). e.birth == p) es) all_same

  -- ---- stuck sets
  pub waits_same : (n : ℕ) (k : Mode) → waits_by n g k ≡ waits_by n h k
  waits_same n (Allowed l birth) = holder_same n l.0
  waits_same n Running = refl
  waits_same n (Yielding l place) = refl
  waits_same n (Ended place) = refl

  held_by_same : (set n m : ℕ) (k : Mode) (w : Option Wish) → is_held_by set n m g k w ≡ is_held_by set n m h k w
  held_by_same set n m Running w = refl
  held_by_same set n m (Ended place) w = refl
  held_by_same set n m (Allowed l birth) w = ap (is_owner_in set) (holder_same n l.0)
  held_by_same set n m (Yielding l place) w = ap (λ es. is_some (standing_in es (Yielding l place) w)) (edges_in_same set n m)

  held_same : (n m set t : ℕ) → is_held n m g set t ≡ is_held n m h set t
  held_same n m set t = ap (λ x. nat_lt t n && x) (held_by_same set n m (mode t h) (latest_wish t h))

  free_same : (n m set k : ℕ) → first_free n m g set k ≡ first_free n m h set k
  free_same n m set zero = refl
  free_same n m set (suc k) =
      ap (λ o. option_or o (if is_member set k && not (is_held n m g set k) then Some k else None)) (free_same n m set k)
      ∙ ap (λ x. option_or (first_free n m h set k) (if is_member set k && not x then Some k else None)) (held_same n m set k)

  pub stale_same : (n m set : ℕ) → stale n m g set ≡ stale n m h set
  unfolding stale
  stale_same n m set = free_same n m set 32

  holds_same : (t m : ℕ) → holds t m g ≡ holds t m h
  holds_same t zero = refl
  holds_same t (suc m) = ap (λ x. x + (if is_some (hold t m h) then 1 else 0)) (holds_same t m)

  more_same : (m : ℕ) (o : Option ℕ) (t : ℕ) → holds_more m g o t ≡ holds_more m h o t
  more_same m None t = refl
  more_same m (Some u) t = ap (λ x. nat_lt x (holds t m g)) (holds_same u m) ∙ ap (λ x. nat_lt (holds u m h) x) (holds_same t m)

  pub choice_same : (set m k : ℕ) → choice set m g k ≡ choice set m h k
  choice_same set m zero = refl
  choice_same set m (suc k) =
      ap (λ o. if may_choose set h k && holds_more m g o k then Some k else o) (choice_same set m k)
      ∙ ap (λ x. if may_choose set h k && x then Some k else choice set m h k) (more_same m (choice set m h k) k)

  -- ---- starvations
  standing_same : (n m t : ℕ) → standing n m t g ≡ standing n m t h
  standing_same n m t = ap (λ es. standing_in es (mode t h) (latest_wish t h)) (edges_same n m)

  pub found_same : edge_born g ≡ edge_born h
  found_same = λ i p. edge_same p i

  pub step_same : (n m t : ℕ) → step n m g t ≡ step n m h t
  step_same n m t =
      ap (λ o. option_or o (option_and_then (edge_born g) (standing n m t g))) (waits_same n (mode t h))
      ∙ ap (λ f. option_or (waits n h t) (option_and_then f (standing n m t g))) found_same
      ∙ ap (λ o. option_or (waits n h t) (option_and_then (edge_born h) o)) (standing_same n m t)

  steps_same : (n m : ℕ) → step n m g ≡ step n m h
  steps_same n m = λ i t. step_same n m t i

  lock_same : (ps : List ℕ) (o : Option Edge) → has_new_lock g ps o ≡ has_new_lock h ps o
  lock_same ps None = refl
  lock_same ps (Some e) = ap (λ f. not (list_any (λ p. is_on e.l.0 (f p)) ps)) found_same

  yielder_same : (o : Option Edge) → is_of_yielder g o ≡ is_of_yielder h o
  yielder_same None = refl
  yielder_same (Some e) = refl

  someone_same : (ps : List ℕ) → someone_yields g ps ≡ someone_yields h ps
  someone_same ps = ap (λ f. list_any f ps) (λ i p. (yielder_same (edge_born g p) ∙ ap (is_of_yielder h) (edge_same p)) i)

  starves_same : (n m : ℕ) (ps : List ℕ) (k : ℕ) → starves_at n m g ps k ≡ starves_at n m h ps k
  starves_same n m ps k =
      ap (λ f. passes_at f (step n m g) ps k && has_new_lock g (take k ps) (f (get_or ps k 0))) found_same
      ∙ ap (λ s. passes_at (edge_born h) s ps k && has_new_lock g (take k ps) (edge_born h (get_or ps k 0))) (steps_same n m)
      ∙ ap (λ x. passes_at (edge_born h) (step n m h) ps k && x) (lock_same (take k ps) (edge_born h (get_or ps k 0)))

  failing_same : (n m : ℕ) (ps : List ℕ) (k : ℕ) → first_failing (starves_at n m g ps) k ≡ first_failing (starves_at n m h ps) k
  failing_same n m ps k = ap (λ f. first_failing f k) (λ i j. starves_same n m ps j i)

  pub fault_same : (n m : ℕ) (ps : List ℕ) → starvation_fault n m g ps ≡ starvation_fault n m h ps
  fault_same n m ps =
      ap (λ o. if nat_lt (length ps) 2 then Some 0 else option_or o (if someone_yields g ps then None else Some 0)) (failing_same n m ps (length ps))
      ∙ ap (λ x. if nat_lt (length ps) 2 then Some 0 else option_or (first_failing (starves_at n m h ps) (length ps)) (if x then None else Some 0)) (someone_same ps)

  given_same : (n m : ℕ) (ps : List ℕ) → if_starvation n m g ps ≡ if_starvation n m h ps
  given_same n m ps = ap (λ o. if is_none o then Some ps else None) (fault_same n m ps)

  from_same : (n m t : ℕ) → starved_from n m g t ≡ starved_from n m h t
  from_same n m t =
      ap (λ s. option_and_then (if_starvation n m g) (run_into s n n t)) (steps_same n m)
      ∙ ap (λ f. option_and_then f (run_into (step n m h) n n t)) (λ i ps. given_same n m ps i)

  -- the starvation of a set is the same before and after a Learn
  pub starved_same : (n m set : ℕ) → starved n m g set ≡ starved n m h set
  starved_same n m set =
      ap (option_and_then (starved_from n m g)) (choice_same set m n)
      ∙ ap (λ f. option_and_then f (choice set m h n)) (λ i t. from_same n m t i)
