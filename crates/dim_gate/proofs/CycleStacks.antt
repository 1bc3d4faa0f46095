-- The signature of a cycle and of a starvation.
use Rattle.std.proofs.Common.{◌≡◌, ℕ, refl, ap, ap₂, inl, inr, List, [], ◌∷◌, map}
use Rattle.std.specs.Prelude.{Some, None}
use Rattle.dim_rag.specs.declared.entry.Edge.{Edge}
use Rattle.dim_rag.specs.declared.entry.Entry.{Entry}
use Rattle.dim_rag.specs.declared.entry.Mode.{Mode}
use Rattle.dim_rag.specs.declared.entry.Mode.TheVariants.{Running, Allowed, Yielding, Ended}
use Rattle.dim_rag.specs.History.{mode}
use Rattle.dim_rag.specs.Born.{In, IsEdge}
use Rattle.dim_rag.specs.Waits.{waits, waits_by}
use Rattle.dim_rag.proofs.Exports.{edge_found, cycle_edges}
use Rattle.dim_rag.specs.Steps.{Follow, IsCycle, births}
use Rattle.dim_signature.specs.Sig.{fresh}
use Rattle.dim_signature.specs.Sorted.{sorted}
use Rattle.dim_gate.specs.Known.{stack_of, stack_at}
use Rattle.dim_gate.specs.ByPlace.{SignatureLaw}
use Rattle.dim_gate.proofs.HeldStacks.{holder_stack}

-- who is waited for has its stack by its birth
waited_stack : (n : ℕ) (h : List Entry) (m : Mode) (e : Edge) → waits_by n h m ≡ Some e → stack_at e.birth h ≡ e.stack
waited_stack n h (Allowed l birth) e q = holder_stack n l.0 h e q
waited_stack n h Running e q = absurd (let k : None ≡ Some e = q in cc)
waited_stack n h (Yielding l place) e q = absurd (let k : None ≡ Some e = q in cc)
waited_stack n h (Ended place) e q = absurd (let k : None ≡ Some e = q in cc)

-- so has each edge to which an edge before it steps
rest_stacks : (n : ℕ) (h : List Entry) (z e : Edge) (es : List Edge) → Follow (waits n h) z (e ∷ es) → map (λ b. stack_at b h) (births es) ≡ map (λ x. x.stack) es
rest_stacks n h z e [] f = refl
rest_stacks n h z e (x ∷ es) f = ap₂ (λ s ss. s ∷ ss) (waited_stack n h (mode e.t.0 h) x f.0) (rest_stacks n h z x es f.1)

-- and the first, to which the last one steps
first_stack : (n : ℕ) (h : List Entry) (z e : Edge) (es : List Edge) → Follow (waits n h) z (e ∷ es) → stack_at z.birth h ≡ z.stack
first_stack n h z e [] f = waited_stack n h (mode e.t.0 h) z f.0
first_stack n h z e (x ∷ es) f = first_stack n h z x es f.1

cycle_stacks : (n : ℕ) (h : List Entry) (cycle : List Edge) → IsCycle (waits n h) cycle → map (λ b. stack_at b h) (births cycle) ≡ map (λ x. x.stack) cycle
cycle_stacks n h [] k = absurd k
cycle_stacks n h (e ∷ es) k = ap₂ (λ s ss. s ∷ ss) (first_stack n h e e es k.closed) (rest_stacks n h e e es k.closed)

-- the stacks of edges are those of the edges with their births
edge_stacks : (h : List Entry) (c : List Edge) → ((e : Edge) → In e c → IsEdge h e) → map (λ b. stack_at b h) (births c) ≡ map (λ x. x.stack) c
edge_stacks h [] f = refl
edge_stacks h (e ∷ es) f = ap₂ (λ s ss. s ∷ ss) (ap stack_of (edge_found h e (f e (inl refl)))) (edge_stacks h es (λ x i. f x (inr i)))

pub signature_law : SignatureLaw
signature_law = record {
  cycle = λ n depth h c k. ap (λ ss. fresh depth (sorted ss)) (cycle_stacks n h c k);
  starvation = λ n m depth h c k. ap (λ ss. fresh depth (sorted ss)) (edge_stacks h c (cycle_edges n m h c k.cycle));
}
