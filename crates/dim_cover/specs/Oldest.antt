-- The oldest of the edges that have a birth or a later one.
use Rattle.std.specs.Prelude.{◌≡◌, ℕ, ◌≤◌, Option, Some}
use Rattle.dim_rag.specs.declared.entry.Edge.{Edge}

-- an edge is there that is no younger than this one
abbrev pub IsNoYounger : Option Edge → Edge → Type 0
IsNoYounger o x = (e : Edge) × (o ≡ Some e) × (e.birth ≤ x.birth)

-- of the edges in P the oldest, of those that have a birth or a later one; none where there are none
pub record IsOldest (P : Edge → Type 0) (from : ℕ) (o : Option Edge) : Type 0 where
  pub own : (e : Edge) → o ≡ Some e → P e × (from ≤ e.birth)
  pub least : (x : Edge) → P x → from ≤ x.birth → IsNoYounger o x
