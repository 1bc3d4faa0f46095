use Rattle.std.proofs.Common.{◌≡◌, ◌∙◌, ◌+◌, ◌<◌, [], ◌∷◌, ◌++◌, ℕ, List, refl, ap, sym, subst, arith, length}
use Rattle.std.specs.Prelude.{Option}
use Rattle.std.proofs.lemmas.List.{length-reverse}
use Rattle.dim_stack.specs.declared.Frame.{Frame}
use Rattle.dim_rag.specs.declared.entry.Edge.{Edge}
use Rattle.dim_rag.specs.History.{past}
use Rattle.dim_rag.specs.Born.{In, all_edges}
use Rattle.dim_rag.proofs.Exports.{edges_law as law}
use Rattle.dim_cover.specs.Index.{Edges}
use Rattle.dim_cover.specs.Oldest.{IsOldest}
use Rattle.dim_cover.proofs.Bound.{room_law}
use Rattle.dim_cover.proofs.Oldest.{IsCaught, none_caught, caught, caught_room, all_caught}
use Rattle.dim_cover.proofs.index.Index.catch_up.Goals as goal

pub loop-e-init : goal.loop-e-init
loop-e-init c = record {
  room = c.requires.room;
  caught = subst (λ (es : List Edge). IsCaught (all_edges (past c.args.graph.now.entries)) es 0) (sym c.requires.empty) (none_caught (all_edges (past c.args.graph.now.entries)));
}

pub add-requires-clause-room : goal.add-requires-clause-room
add-requires-clause-room c =
    let b = c.args.graph.now in
    let h = past b.entries in
    let o = subst (λ (o : Option Edge). IsOldest (λ e. In e (all_edges h)) c.loop-e.from o) c.in-Some.is c.oldest_from.ensures in
    let lt : length c.loop-e.self.edges < b.threads + b.locks = caught_room (all_edges h) c.loop-e.self.edges c.loop-e.from (law.by_birth h) c.loop-e.invariant.caught c.in-Some.e o (b.threads + b.locks) (room_law b.threads b.locks h c.len-few.ensures.fits c.len-few.ensures.in_range) in
    omega (arith, lt, c.loop-e.invariant.room)

pub overflow_add-from : goal.overflow_add-from
overflow_add-from c =
    let b = c.args.graph.now in
    let h = past b.entries in
    let o = subst (λ (o : Option Edge). IsOldest (λ e. In e (all_edges h)) c.loop-e.from o) c.in-Some.is c.oldest_from.ensures in
    let lt : c.in-Some.e.birth < length h = law.old h c.in-Some.e (o.own c.in-Some.e refl).0 in
    omega (arith, lt, length-reverse b.entries, c.len-few.ensures.small)

pub loop-e-smaller : goal.loop-e-smaller
loop-e-smaller c =
    let b = c.args.graph.now in
    let h = past b.entries in
    let o = subst (λ (o : Option Edge). IsOldest (λ e. In e (all_edges h)) c.loop-e.from o) c.in-Some.is c.oldest_from.ensures in
    let own = o.own c.in-Some.e refl in
    let lt : c.in-Some.e.birth < length h = law.old h c.in-Some.e own.0 in
    omega (arith, lt, own.1, length-reverse b.entries)

pub loop-e-preserved : goal.loop-e-preserved
loop-e-preserved c =
    let b = c.args.graph.now in
    let h = past b.entries in
    let o = subst (λ (o : Option Edge). IsOldest (λ e. In e (all_edges h)) c.loop-e.from o) c.in-Some.is c.oldest_from.ensures in
    let es : List Edge = c.loop-e.self.edges in
    let e : Edge = c.in-Some.e in
    let is : c.add.new.self.edges ≡ es ++ e ∷ [] = ap (λ (x : Edges). x.edges) c.add.ensures ∙ ap (λ (s : List Frame). es ++ record { t = e.t; l = e.l; stack = s; birth = e.birth } ∷ []) c.as_slice.ensures in
    record {
      room = ap (λ (x : Edges). x.room) c.add.ensures ∙ c.loop-e.invariant.room;
      caught = subst (λ (es : List Edge). IsCaught (all_edges h) es (e.birth + 1)) (sym is) (caught (all_edges h) es c.loop-e.from (law.by_birth h) c.loop-e.invariant.caught e o);
    }

pub returns : goal.returns
returns c =
    let h = past c.args.graph.now.entries in
    let o = subst (λ (o : Option Edge). IsOldest (λ e. In e (all_edges h)) c.loop-e.from o) c.in_default.is c.oldest_from.ensures in
    let all : c.loop-e.self.edges ≡ all_edges h = all_caught (all_edges h) c.loop-e.self.edges c.loop-e.from (law.by_birth h) c.loop-e.invariant.caught o in
    ap (λ (n : ℕ). record { room = n; edges = c.loop-e.self.edges }) (c.loop-e.invariant.room ∙ sym c.requires.room) ∙ ap (λ (es : List Edge). record { room = c.args.self.now.room; edges = es }) all
