use Rattle.std.proofs.Common.{◌≡◌, sym, subst, is_some, None}
use Rattle.dim_rag.specs.History.{past}
use Rattle.dim_signature.specs.Catalogue.{signature_number}
use Rattle.dim_gate.specs.Gate.{Gate}
use Rattle.dim_gate.specs.Known.{known_sigs, stacks_of}
use Rattle.dim_gate.specs.Starved.{learn_fault}
use Rattle.dim_gate.proofs.lean_gate.LeanGate.knows.Goals as goal

pub returns : goal.returns
returns c =
    subst (λ (x : Gate). c.knows.result ≡ is_some (signature_number (known_sigs x.loaded x.depth (past x.entries)) (stacks_of c.args.births.now (past x.entries)))) c.self.view_is c.knows.ensures

pub knows-requires-clause-fault : goal.knows-requires-clause-fault
knows-requires-clause-fault c = subst (λ (x : Gate). learn_fault x.threads x.locks (past x.entries) c.args.births.now ≡ None) (sym c.self.view_is) c.requires
