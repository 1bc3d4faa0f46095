-- What is told of a merged history.
use Rattle.std.proofs.Common.{◌≡◌, ◌+◌, ◌-◌, ◌≤◌, ℕ, List, length, map, refl, ap, ◌∙◌, arith}
use Rattle.std.specs.Prelude.{not}
use Rattle.std.specs.List.{filter}
use Rattle.std.proofs.lemmas.List.{length-append, length-map}
use Rattle.std.proofs.lemmas.List.Filters.{length-filter_both}
use Rattle.dim_history_file.specs.Value.{NamedSig, have_stacks}
use Rattle.dim_merge.specs.Merging.{merged, unknown_to, with_yields}
use Rattle.dim_merge.specs.Report.{Counts, counts_of}

abbrev both_known : List NamedSig → List NamedSig → ℕ
both_known first second = length (filter (λ (s : NamedSig). have_stacks first s.stacks) second)

length-merged : (first second : List NamedSig) → length (merged first second) ≡ length first + length (unknown_to first second)
length-merged first second =
    length-append (map (with_yields second) first) (unknown_to first second) ∙ ap (λ n. n + length (unknown_to first second)) (length-map first (with_yields second))

length-second : (first second : List NamedSig) → both_known first second + length (unknown_to first second) ≡ length second
length-second first second =
    length-filter_both (λ (s : NamedSig). have_stacks first s.stacks) (λ (s : NamedSig). not (have_stacks first s.stacks)) (λ s. refl) second

pub added_few : (first second : List NamedSig) (n a b : ℕ) → n ≡ length (merged first second) → a ≡ length first → b ≡ length second → n - a ≤ b
added_few first second n a b p q r = omega (arith, p, q, r, length-merged first second, length-second first second)

abbrev counts : ℕ → ℕ → ℕ → Counts
counts x y z = record { signatures = x; added = y; both = z }

pub counted : (first second sigs : List NamedSig) (n a b : ℕ) → sigs ≡ merged first second → n ≡ length sigs → a ≡ length first → b ≡ length second
    → counts n (n - a) (b - (n - a)) ≡ counts_of first second sigs
counted first second sigs n a b e p q r =
    let whole : n ≡ length (merged first second) = p ∙ ap length e in
    let more : n - a ≡ length (unknown_to first second) = omega (arith, whole, q, length-merged first second) in
    let same : b - (n - a) ≡ both_known first second = omega (arith, more, r, length-second first second) in
    ap (λ x. counts x (n - a) (b - (n - a))) p
    ∙ ap (λ y. counts (length sigs) y (b - (n - a))) more
    ∙ ap (counts (length sigs) (length (unknown_to first second))) same
