-- Legal, immune and known, said by places. A list has its newest entry first, so in
-- `newer ++ (e ∷ older)` the place of e is `length older`.
use Rattle.std.specs.Prelude.{◌≡◌, ◌⊎◌, ℕ, ◌+◌, List, ◌∷◌, ◌++◌, length, slice_get, map, Some}
use Rattle.dim_rag.specs.declared.entry.Edge.{Edge}
use Rattle.dim_rag.specs.declared.entry.Entry.{Entry}
use Rattle.dim_rag.specs.declared.entry.Entry.TheVariants.{Learn}
use Rattle.dim_rag.specs.Fits.{Fits, AreInRange}
use Rattle.dim_rag.specs.Waits.{waits}
use Rattle.dim_rag.specs.Steps.{IsCycle, births}
use Rattle.dim_rag.specs.Starvation.{IsStarvation}
use Rattle.dim_signature.specs.Sig.{Sig, fresh}
use Rattle.dim_signature.specs.Sorted.{sorted}
use Rattle.dim_gate.specs.Gate.{Constants}
use Rattle.dim_gate.specs.Known.{knowns, learnt_sig}
use Rattle.dim_gate.specs.Legal.{IsLegalAfter, Legal}
use Rattle.dim_gate.specs.Immune.{IsImmuneAt, IsImmune}
use Rattle.dim_gate.specs.Learns.{learns}

-- a list is legal exactly where the entry at each place is legal after those before it; it then
-- fits, and is in range
pub record LegalLaw : Type 0 where
  pub each : (c : Constants) (newer : List Entry) (e : Entry) (older : List Entry)
      → Legal c (newer ++ (e ∷ older)) → IsLegalAfter c older e
  pub whole : (c : Constants) (h : List Entry)
      → ((newer : List Entry) (e : Entry) (older : List Entry) → newer ++ (e ∷ older) ≡ h → IsLegalAfter c older e)
      → Legal c h
  pub fits : (c : Constants) (h : List Entry) → Legal c h → Fits h
  pub in_range : (c : Constants) (h : List Entry) → Legal c h → AreInRange c.threads c.locks h

-- a list is immune exactly where each prefix of it has only covers that are excused
pub record PrefixLaw : Type 0 where
  pub each : (loaded : List Sig) (depth : ℕ) (newer older : List Entry)
      → IsImmune loaded depth (newer ++ older) → IsImmuneAt loaded depth older
  pub whole : (loaded : List Sig) (depth : ℕ) (h : List Entry)
      → ((newer older : List Entry) → newer ++ older ≡ h → IsImmuneAt loaded depth older)
      → IsImmune loaded depth h

-- as many signatures are known as were loaded and learnt; a loaded one keeps its number and its
-- state; that of a Learn has the next number, is switched on, and is known at lists longer than its
-- place
pub record KnownLaw : Type 0 where
  pub count : (loaded : List Sig) (depth : ℕ) (h : List Entry)
      → length (knowns loaded depth h) ≡ length loaded + length (learns h)
  pub loaded : (loaded : List Sig) (depth : ℕ) (h : List Entry) (i : ℕ) (s : Sig)
      → slice_get loaded i ≡ Some s
      → slice_get (knowns loaded depth h) i ≡ Some record { sig = s; since = 0 }
  pub learnt : (loaded : List Sig) (depth : ℕ) (newer : List Entry) (places : List ℕ) (older : List Entry)
      → slice_get (knowns loaded depth (newer ++ (Learn places ∷ older))) (length loaded + length (learns older)) ≡ Some record { sig = learnt_sig depth places older; since = length older }

-- the signature of a cycle has the stacks of its hold edges, and that of a starvation those of the
-- edges to which its threads step, sorted, at the run's depth
pub record SignatureLaw : Type 0 where
  pub cycle : (n depth : ℕ) (h : List Entry) (c : List Edge) → IsCycle (waits n h) c
      → learnt_sig depth (births c) h ≡ fresh depth (sorted (map (λ e. e.stack) c))
  pub starvation : (n m depth : ℕ) (h : List Entry) (c : List Edge) → IsStarvation n m h c
      → learnt_sig depth (births c) h ≡ fresh depth (sorted (map (λ e. e.stack) c))

-- these edges are a cycle or a starvation at h, among n threads and m locks
abbrev pub IsCycleOrStarvation : ℕ → ℕ → List Entry → List Edge → Type 0
IsCycleOrStarvation n m h c = IsCycle (waits n h) c ⊎ IsStarvation n m h c

-- each Learn of a legal list has the births of a cycle or of a starvation that stands at the
-- entries before it
abbrev pub LearntEdgesLaw : Type 0
LearntEdgesLaw = (c : Constants) (newer : List Entry) (places : List ℕ) (older : List Entry)
    → Legal c (newer ++ (Learn places ∷ older))
    → (edges : List Edge) × IsCycleOrStarvation c.threads c.locks older edges × (births edges ≡ places)
