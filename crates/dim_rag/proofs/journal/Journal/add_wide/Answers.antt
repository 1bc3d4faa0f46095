use Rattle.std.proofs.Common.{◌-◌, ap}
use Rattle.std.specs.Prelude.{List, ℕ}
use Rattle.dim_rag.specs.declared.entry.Entry.{Entry}
use Rattle.dim_rag.specs.Journal.{Recorded}
use Rattle.dim_rag.specs.Shown.{shown}
use Rattle.dim_rag.proofs.Briefs.{entries_more_wide, journal_more_wide}
use Rattle.dim_rag.proofs.journal.Journal.add_wide.Goals as goal

abbrev recorded : List Entry → ℕ → Recorded
recorded es n = record { entries = es; spare = n }

-- the new entry is behind the others
pub returns-clause-ok : goal.returns-clause-ok
returns-clause-ok c =
    rw (← c.self.view_is)
    (ap (λ (es : List Entry). recorded es (c.self.inside.spare - 1))
    (rw (c.push_reserved.ensures.items, c.in_ok-number.ensures.items, c.in_ok-number.ensures.number)
    (entries_more_wide c.self.inside.frames.items c.self.inside.causes.items c.self.inside.wide.items c.self.inside.briefs.items (shown c.args.e.now) c.self.invariant.has_wide)))
