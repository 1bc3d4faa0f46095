-- The signatures of a catalogue with one more.
use Rattle.std.proofs.Common.{◌≡◌, ◌≢◌, ◌<◌, arith, List, [], ◌∷◌, ◌++◌, length, None}
use Rattle.std.proofs.lemmas.List.{length_push}
use Rattle.std.proofs.lemmas.List.Elements.{All-push}
use Rattle.std.proofs.lemmas.List.Quantifiers.{all_pairs_push}
use Rattle.dim_signature.specs.Sig.{Sig, IsSig}
use Rattle.dim_signature.specs.Sorted.{AreSorted}
use Rattle.dim_signature.specs.Catalogue.{IsCatalogue, signature_number}
use Rattle.dim_signature.proofs.Numbers.{none_has}

pub catalogue-push : (sigs : List Sig) (s : Sig) → IsCatalogue sigs → length sigs < 4096 → IsSig s → AreSorted s.stacks → signature_number sigs s.stacks ≡ None → IsCatalogue (sigs ++ s ∷ [])
catalogue-push sigs s c few in_range sorted new = record {
  few = omega (arith, length_push sigs s);
  in_range = All-push IsSig sigs s c.in_range in_range;
  sorted = All-push (λ t. AreSorted t.stacks) sigs s c.sorted sorted;
  distinct = all_pairs_push (λ t u. t.stacks ≢ u.stacks) sigs s c.distinct (none_has sigs s.stacks new);
}
