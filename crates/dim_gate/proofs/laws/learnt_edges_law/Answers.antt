use Rattle.dim_gate.proofs.LearntEdges.{learnt_edges_law}
use Rattle.dim_gate.proofs.laws.learnt_edges_law.Goals as goal

pub returns : goal.returns
returns c = learnt_edges_law
