-- What contracts see of what is made of two histories.
use Rattle.std.specs.Prelude.{ℕ, List}
use Rattle.dim_merge.specs.declared.making.Counts as code
use Rattle.dim_merge.specs.declared.making.Made as kept
use Rattle.dim_merge.specs.Course.{Made}
use Rattle.dim_merge.specs.Report.{Counts}

abbrev pub counts_seen : code.Counts → Counts
counts_seen c = record { signatures = c.signatures; added = c.added; both = c.both }

-- what is written under a name
abbrev pub made_of : List ℕ → kept.Made → Made
made_of name made = record { name = name; text = made.text; report = made.report }
