-- What steps from a thread run into, as a loop finds it.
use Rattle.std.proofs.Common.{◌≡◌, ℕ, suc, ◌+◌, ◌-◌, ◌<◌, ◌≤◌, ap, sym, ◌∙◌, arith, List, []}
use Rattle.std.specs.Prelude.{Option, Some, None, option_map}
use Rattle.std.specs.Option.{option_or, option_and_then}
use Rattle.dim_rag.specs.declared.entry.Edge.{Edge}
use Rattle.dim_rag.specs.declared.graph.link.Link.{Link}
use Rattle.dim_rag.specs.Links.{link_of}
use Rattle.dim_rag.specs.Steps.{Step, walk, run_into}
use Rattle.dim_rag.proofs.Links.{by_edge, no_edge}

module _ (s : Step) (n i at : ℕ) (r : Option (List ℕ)) (inv : run_into s n (n - i) at ≡ r) where
  unrolled : i < n → r ≡ option_or (walk s at n at []) (option_and_then (λ (e : Edge). run_into s n (n - (i + 1)) e.t.0) (s at))
  unrolled l = sym inv ∙ ap (λ k. run_into s n k at) (let e : n - i ≡ suc (n - (i + 1)) = omega arith in e)

  -- a cycle begins with the thread
  pub found : i < n → (b : List ℕ) → walk s at n at [] ≡ Some b → r ≡ Some b
  found l b q = unrolled l ∙ ap (λ o. option_or o (option_and_then (λ (e : Edge). run_into s n (n - (i + 1)) e.t.0) (s at))) q

  on : i < n → walk s at n at [] ≡ None → (o : Option Edge) → s at ≡ o → r ≡ option_and_then (λ (e : Edge). run_into s n (n - (i + 1)) e.t.0) o
  on l q o p =
      unrolled l ∙ ap (λ x. option_or x (option_and_then (λ (e : Edge). run_into s n (n - (i + 1)) e.t.0) (s at))) q
      ∙ ap (option_and_then (λ (e : Edge). run_into s n (n - (i + 1)) e.t.0)) p

  -- the thread steps nowhere
  pub ends : i < n → walk s at n at [] ≡ None → option_map link_of (s at) ≡ None → r ≡ None
  ends l q p = on l q None (no_edge (s at) p)

  -- it steps to the next
  pub goes_on : i < n → walk s at n at [] ≡ None → (x : Link) → option_map link_of (s at) ≡ Some x → run_into s n (n - (i + 1)) x.t.0 ≡ r
  goes_on l q x p = by_edge (λ y. run_into s n (n - (i + 1)) y.t.0 ≡ r) (s at) x p (λ e here. sym (on l q (Some e) here))

  -- as many threads as there are have been tried
  pub ends_long : n ≤ i → r ≡ None
  ends_long l = sym inv ∙ ap (λ k. run_into s n k at) (let e : n - i ≡ 0 = omega arith in e)
