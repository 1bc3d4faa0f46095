use Rattle.dim_rag.specs.Shown.{shown}
use Rattle.dim_rag.proofs.Steps.{graph_more, graph_room}
use Rattle.dim_rag.proofs.graph.Graph.enter_ref.Goals as goal

-- the graph is that of the list with the entry
pub invariant_of-self : goal.invariant_of-self
invariant_of-self c =
    rw (c.tell.ensures, c.replay.ensures.rows, c.replay.ensures.holders, c.replay.ensures.counts, c.len-place.ensures)
    (graph_more _ _ _ _ _ _ _ (shown c.args.e.now) c.self.invariant (rw (← c.self.view_is) at c.requires.room) (rw (← c.self.view_is) at c.requires.in_range) (rw (← c.self.view_is) at c.requires.fits))

-- a lock that is taken may be taken once more
pub replay-requires-clause-room : goal.replay-requires-clause-room
replay-requires-clause-room c =
    graph_room _ _ _ _ _ _ _ (shown c.args.e.now) c.self.invariant (rw (← c.self.view_is) at c.requires.in_range) (rw (← c.self.view_is) at c.requires.fits)
