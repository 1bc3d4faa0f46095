-- Signatures at the depths at which they are tried.
use Rattle.std.specs.Prelude.{◌≡◌, ◌⊎◌, ℕ, ◌<◌, ◌≤◌, true, List, [], ◌∷◌, ◌++◌, length, map, take, slice_get, Option, Some, MatchOption}
use Rattle.dim_stack.specs.declared.Frame.{Frame}
use Rattle.dim_rag.specs.declared.entry.Edge.{Edge}
use Rattle.dim_rag.specs.declared.entry.Entry.{Entry}
use Rattle.dim_rag.specs.Born.{In, all_edges}
use Rattle.dim_signature.specs.Sig.{Sig, fresh}
use Rattle.dim_cover.specs.Named.{cover_if_on}
use Rattle.dim_tune.specs.declared.lowered.Lowered.{Lowered}
use Rattle.dim_tune.specs.Asked.{asked, recorded, Keeps}
use Rattle.dim_tune.specs.Depths.{with_depth}

-- a signature at a depth of its own or below
pub record IsLowered (s : Sig) (x : Lowered) : Type 0 where
  pub low : 1 ≤ x.depth
  pub high : x.depth ≤ s.depth
  pub known_is : x.known.sigs ≡ fresh x.depth s.stacks ∷ []

-- each of these signatures at such a depth
pub record AreLowered (sigs : List Sig) (all : List Lowered) : Type 0 where
  pub count : length all ≡ length sigs
  pub each : (i : ℕ) (s : Sig) (x : Lowered) → slice_get sigs i ≡ Some s → slice_get all i ≡ Some x
      → IsLowered s x

-- the depths at which they are tried
abbrev pub depths_of : List Lowered → List ℕ
depths_of all = map (λ x. x.depth) all

-- the births of the first cover of a signature at a depth which uses a new edge beside these, if it
-- is on and has one
abbrev pub cover_at : Sig → ℕ → List Edge → Edge → Option (List ℕ)
cover_at s d es new = cover_if_on (es ++ new ∷ []) new.birth (with_depth d s)

-- signature i is raised to the first depth, from d on, at which what was named stays so that entry e
-- says for a new edge beside these; or to its own depth
pub record IsRaised (s : Sig) (i : ℕ) (es : List Edge) (e : Entry) (new : Edge) (d to : ℕ) : Type 0 where
  pub up : d ≤ to
  pub high : to ≤ s.depth
  pub keeps : s.on ≡ true → to < s.depth → Keeps (recorded e) i (cover_at s to es new)
  pub passed : (k : ℕ) → d ≤ k → k < to → Keeps (recorded e) i (cover_at s k es new) → ⊥

-- s has no cover with this edge at any depth from 1 on: it is off, or no stack of it begins with the
-- innermost frame of the edge's
abbrev pub IsAside : Sig → Edge → Type 0
IsAside s new = s.on ≡ true → (j : ℕ) (x : List Frame) → slice_get s.stacks j ≡ Some x
    → take 1 x ≡ take 1 new.stack → ⊥

-- the depth at which signature i goes on behind an entry after h: where no cover was looked for, or
-- it has none with the new edge, it stays
abbrev pub IsNext : Sig → ℕ → List Entry → Entry → ℕ → ℕ → Type 0
IsNext s i h e d to = MatchOption (asked e h) (to ≡ d) (λ new. IsRaised s i (all_edges h) e new d to ⊎ ((to ≡ d) × IsAside s new))

-- each of these signatures is raised that has one of these numbers, and the others stay
abbrev pub AreRaised : List Sig → List ℕ → List Edge → Entry → Edge → List Lowered → List Lowered → Type 0
AreRaised sigs numbers es e new old now = (i : ℕ) (s : Sig) (x y : Lowered) → slice_get sigs i ≡ Some s
    → slice_get old i ≡ Some x → slice_get now i ≡ Some y
    → IsRaised s i es e new x.depth y.depth ⊎ ((y.depth ≡ x.depth) × (In i numbers → ⊥))

-- the depths at which these signatures go on
abbrev pub AreNext : List Sig → List Entry → Entry → List Lowered → List Lowered → Type 0
AreNext sigs h e old new = (i : ℕ) (s : Sig) (x y : Lowered) → slice_get sigs i ≡ Some s
    → slice_get old i ≡ Some x → slice_get new i ≡ Some y → IsNext s i h e x.depth y.depth
