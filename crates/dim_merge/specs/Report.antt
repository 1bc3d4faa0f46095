-- The report.
use Rattle.std.specs.Prelude.{ℕ, List, ◌++◌, length, codes}
use Rattle.std.specs.Fmt.{decimal}
use Rattle.std.specs.List.{filter}
use Rattle.dim_history_file.specs.Value.{NamedSig, have_stacks}
use Rattle.dim_merge.specs.Merging.{unknown_to}

-- how many signatures there are, how many of them the second history added, and how many of the
-- second's the first knows
pub record Counts : Type 0 where
  pub signatures : ℕ
  pub added : ℕ
  pub both : ℕ

abbrev pub counts_of : List NamedSig → List NamedSig → List NamedSig → Counts
counts_of first second sigs = record {
  signatures = length sigs;
  added = length (unknown_to first second);
  both = length (filter (λ s. have_stacks first s.stacks) second);
}

abbrev pub report_line : Counts → List ℕ
report_line c = codes "signatures " ++ (decimal c.signatures
    ++ (codes " added " ++ (decimal c.added ++ (codes " both " ++ (decimal c.both ++ codes "\n")))))
