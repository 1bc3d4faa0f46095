use Rattle.std.proofs.Common.{ap, sym, refl}
use Rattle.std.specs.Prelude.{Option}
use Rattle.dim_rag.specs.declared.entry.Edge.{Edge}
use Rattle.dim_rag.specs.declared.entry.Named.{Named}
use Rattle.dim_rag.specs.History.{past}
use Rattle.dim_rag.specs.Born.{all_edges, edge_after}
use Rattle.dim_cover.proofs.Exports.{new_by_birth}
use Rattle.dim_gate.specs.Threads.{yield_or_go}
use Rattle.dim_gate.proofs.knowledge.Knowledge.asked.Goals as goal

pub returns-then-misses : goal.returns-then-misses
returns-then-misses c =
    let h = past c.args.graph.now.entries in
    let new : Edge = edge_after c.args.t c.args.l c.args.stack.now h in
    ap (λ (o : Option Named). (yield_or_go c.args.t c.args.l c.args.stack.now o).reply)
    (sym (c.misses.ensures c.if-misses.true (all_edges h) new c.args.self.now.catalogue.sigs c.requires.shelf (new_by_birth h new refl) refl))
