-- Of what each Learn of a legal history is.
use Rattle.std.proofs.Common.{◌≡◌, ℕ, refl, inl, inr, List, ◌∷◌}
use Rattle.std.specs.Prelude.{Option, Some, None, if◌then◌else◌, is_none}
use Rattle.dim_rag.specs.declared.entry.Edge.{Edge}
use Rattle.dim_rag.specs.declared.entry.Entry.{Entry}
use Rattle.dim_rag.specs.declared.entry.Entry.TheVariants.{Learn}
use Rattle.dim_rag.specs.Certificate.{cycle_fault}
use Rattle.dim_rag.specs.Starvation.{starvation_fault, IsStarvation}
use Rattle.dim_rag.specs.Steps.{births as births_of}
use Rattle.dim_rag.proofs.Exports.{certificate_law, starvation_law}
use Rattle.dim_gate.specs.Gate.{Constants}
use Rattle.dim_gate.specs.Legal.{Legal}
use Rattle.dim_gate.specs.Starved.{learn_fault}
use Rattle.dim_gate.specs.ByPlace.{IsCycleOrStarvation, LearntEdgesLaw}
use Rattle.dim_gate.proofs.Fitting.{in_range, earlier}
use Rattle.dim_gate.proofs.Vetted.{legal_made}

-- places that may be learnt are the births of a cycle or of a starvation
edges_of : (c : Constants) (h : List Entry) (places : List ℕ) → Legal c h → learn_fault c.threads c.locks h places ≡ None
    → (edges : List Edge) × IsCycleOrStarvation c.threads c.locks h edges × (births_of edges ≡ places)
edges_of c h places k q = go (starvation_fault c.threads c.locks h places) (starvation_law c.threads c.locks h places).0 q
  where
    go : (o : Option ℕ) → (o ≡ None → (edges : List Edge) × IsStarvation c.threads c.locks h edges × (births_of edges ≡ places)) → (if is_none o then None else cycle_fault c.threads c.locks h places) ≡ None
        → (edges : List Edge) × IsCycleOrStarvation c.threads c.locks h edges × (births_of edges ≡ places)
    go None f r = let w = f refl in (w.0, inr w.1, w.2)
    go (Some i) f r = let w = (certificate_law c.threads c.locks h (in_range c h k) places).0 r in (w.0, inl w.1, w.2)

pub learnt_edges_law : LearntEdgesLaw
learnt_edges_law c newer places older k =
    let now = earlier c newer (Learn places ∷ older) k in
    edges_of c older places now.1 (legal_made c older (Learn places) now.0).1
