use Rattle.std.proofs.Common.{◌≡◌, ◌+◌, ◌<◌, ◌≤◌, ◌⊎◌, ℕ, length}
use Rattle.std.specs.Prelude.{IfSome}
use Rattle.dim_cover.specs.Best.{HasCoverIn, IsNoMore}
use Rattle.dim_cover.specs.Shelf.{place_at}
use Rattle.dim_cover.proofs.index.Index.first_near.Given as goal

-- the first of the places so far, from the last one downwards
abbrev pub invariant-loop-left : goal.invariant-loop-left
invariant-loop-left l = record {
  finds : (q : ℕ) → q < length l.shelf.places.items → (place_at l.shelf.places.items q).bucket ≡ l.bucket → (q < l.left) ⊎ (HasCoverIn l.self.edges l.new_edge l.catalogue.sigs l.bucket (place_at l.shelf.places.items q).sig → IsNoMore l.first (place_at l.shelf.places.items q).sig);
  there : IfSome l.first (λ n. n < length l.catalogue.sigs);
  bound : l.left ≤ length l.shelf.places.items;
  own : (q : ℕ) → l.left ≡ q + 1 → (place_at l.shelf.places.items q).bucket ≡ l.bucket;
}

abbrev pub decreases-loop-left : goal.decreases-loop-left
decreases-loop-left l = l.left
