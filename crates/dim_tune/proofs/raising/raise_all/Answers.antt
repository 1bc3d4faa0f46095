use Rattle.std.proofs.Common.{◌≡◌, ◌⊎◌, ◌∷◌, ◌++◌, [], ℕ, List, ap, sym, ◌∙◌, subst, inl, inr, Result, Ok, Err}
use Rattle.std.specs.Prelude.{MatchOption, OnOk, Option, Some, option_map, slice_get}
use Rattle.dim_base.specs.declared.out_of_memory.OutOfMemory.{OutOfMemory}
use Rattle.dim_stack.specs.declared.Frame.{Frame}
use Rattle.dim_rag.specs.declared.entry.Edge.{Edge}
use Rattle.dim_rag.specs.declared.entry.Entry.{Entry}
use Rattle.dim_signature.specs.Sig.{Sig}
use Rattle.dim_tune.specs.declared.lowered.Lowered.{Lowered}
use Rattle.dim_tune.specs.Innermost.{AreFiled, Files, filed}
use Rattle.dim_tune.specs.Raised.{AreNext, AreRaised, IsAside, IsRaised}
use Rattle.dim_rag.specs.Born.{AreByBirth, In, all_edges, edge_after}
use Rattle.dim_rag.specs.History.{past}
use Rattle.dim_rag.specs.Shown.{shown}
use Rattle.dim_cover.proofs.Exports.{new_by_birth}
use Rattle.dim_tune.specs.Asked.{asked}
use Rattle.dim_tune.specs.declared.asked.Wish.{Wish}
use Rattle.dim_tune.proofs.Answering.{asked_birth}
use Rattle.dim_tune.proofs.Filing.{aside_of}
use Rattle.dim_tune.proofs.raising.raise_all.Goals as goal

-- where a cover was looked for, each signature is raised that is filed, and the others have none
next_where : (r : Result (Unit {0}) OutOfMemory) (sigs : List Sig) (h : List Entry) (e : Entry) (new : Edge) (old now : List Lowered) (files : Files) (f : Frame) → AreFiled files sigs → slice_get new.stack 0 ≡ Some f → asked e h ≡ Some new
    → OnOk r (AreRaised sigs (filed files f) (all_edges h) e new old now) → OnOk r (AreNext sigs h e old now)
next_where (Err x) sigs h e new old now files f all first a k = tt
next_where (Ok x) sigs h e new old now files f all first a k =
    λ i s y z here was at. subst (λ (o : Option Edge). MatchOption o (z.depth ≡ y.depth) (λ n. IsRaised s i (all_edges h) e n y.depth z.depth ⊎ ((z.depth ≡ y.depth) × IsAside s n))) (sym a) (elim (k i s y z here was at) [
      | inl r ↦ inl r
      | inr r ↦ inr (r.0, aside_of files sigs all i s here new f first r.1)
    ])

-- the edge for which a cover was looked for
edge_asked : (h : List Entry) (e : Entry) (o : Option Wish) (w : Wish) → option_map (λ (x : Wish). edge_after x.t x.l x.stack.now h) o ≡ asked e h → o ≡ Some w → asked e h ≡ Some (edge_after w.t w.l w.stack.now h)
edge_asked h e o w told is = sym told ∙ ap (option_map (λ (x : Wish). edge_after x.t x.l x.stack.now h)) is

pub raise_each-requires-clause-newest : goal.raise_each-requires-clause-newest
raise_each-requires-clause-newest c =
    let h = past c.args.graph.now.entries in
    let w = c.in-Some.wish in
    let new : Edge = edge_after w.t w.l w.stack.now h in
    let a : asked (shown c.args.e.now) h ≡ Some new = edge_asked h (shown c.args.e.now) c.asked.result w c.asked.ensures.edge c.in-Some.is in
    subst (λ (es : List Edge). AreByBirth (es ++ c.edge_after-edge.result ∷ [])) (sym c.requires.edges)
    (subst (λ (x : Edge). AreByBirth (all_edges h ++ x ∷ [])) (sym c.edge_after-edge.ensures) (new_by_birth h new (asked_birth (shown c.args.e.now) h new a)))

pub returns-in-Some-clause-next : goal.returns-in-Some-clause-next
returns-in-Some-clause-next c =
    let h = past c.args.graph.now.entries in
    let sigs = c.args.loaded.now.sigs in
    let e = shown c.args.e.now in
    let w = c.in-Some.wish in
    let new : Edge = edge_after w.t w.l w.stack.now h in
    let files = c.args.innermost.now.files in
    let f = c.first_frame.result in
    let a : asked e h ≡ Some new = edge_asked h e c.asked.result w c.asked.ensures.edge c.in-Some.is in
    next_where c.raise_each.result sigs h e new c.args.all.now.items c.raise_each.new.all.items files f c.requires.filed c.first_frame.ensures a
    (subst (λ (numbers : List ℕ). OnOk c.raise_each.result (AreRaised sigs numbers (all_edges h) e new c.args.all.now.items c.raise_each.new.all.items)) c.at-near.ensures
    (subst (λ (es : List Edge). OnOk c.raise_each.result (AreRaised sigs c.at-near.result.now es e new c.args.all.now.items c.raise_each.new.all.items)) c.requires.edges
    (subst (λ (x : Edge). OnOk c.raise_each.result (AreRaised sigs c.at-near.result.now c.args.index.now.edges e x c.args.all.now.items c.raise_each.new.all.items)) c.edge_after-edge.ensures c.raise_each.ensures.raised)))

pub raise_each-requires-clause-numbers : goal.raise_each-requires-clause-numbers
raise_each-requires-clause-numbers c = λ n i. c.requires.filed.only c.first_frame.result n (subst (λ (x : List ℕ). In n x) c.at-near.ensures i)
