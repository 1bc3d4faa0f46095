use Rattle.std.proofs.Common.{◌∙◌, ap, sym, is_some, List}
use Rattle.dim_rag.specs.History.{past}
use Rattle.dim_signature.specs.Catalogue.{signature_number}
use Rattle.dim_signature.specs.Sig.{Sig}
use Rattle.dim_gate.specs.Known.{stacks_of}
use Rattle.dim_gate.proofs.knowledge.Knowledge.knows.Goals as goal

pub returns : goal.returns
returns c = c.knows.ensures ∙ ap (λ (s : List Sig). is_some (signature_number s (stacks_of c.args.births.now (past c.args.graph.now.entries)))) (sym c.requires.knows.gate.known)
