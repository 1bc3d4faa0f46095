use Rattle.std.proofs.Common.{◌∙◌, ap, sym, List}
use Rattle.dim_rag.specs.History.{past}
use Rattle.dim_signature.specs.Sig.{Sig}
use Rattle.dim_gate.specs.Starved.{is_unlearnt}
use Rattle.dim_gate.proofs.knowledge.Knowledge.is_unlearnt.Goals as goal

pub returns : goal.returns
returns c = c.is_unlearnt.ensures ∙ ap (λ (s : List Sig). is_unlearnt c.args.self.now.cap s (past c.args.graph.now.entries) c.args.births.now) (sym c.requires.knows.gate.known)
