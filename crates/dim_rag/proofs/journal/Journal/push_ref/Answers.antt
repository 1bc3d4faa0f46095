use Rattle.std.proofs.Common.{◌-◌, ap}
use Rattle.std.specs.Prelude.{List, ℕ}
use Rattle.dim_rag.specs.declared.entry.Entry.{Entry}
use Rattle.dim_rag.specs.Journal.{Recorded}
use Rattle.dim_rag.specs.Shown.{shown}
use Rattle.dim_rag.proofs.Briefs.{entries_more, journal_more, never_wide}
use Rattle.dim_rag.proofs.journal.Journal.push_ref.Goals as goal

abbrev recorded : List Entry → ℕ → Recorded
recorded es n = record { entries = es; spare = n }

-- there is room for one entry less
pub invariant_of-self : goal.invariant_of-self
invariant_of-self c =
    rw (c.push_reserved.ensures.items, c.push_reserved.ensures.capacity, c.brief_of-brief.ensures.frames, c.brief_of-brief.ensures.causes)
    (journal_more _ _ _ _ _ _ _ _ (shown c.args.e.now) c.brief_of-brief.result _ _ c.self.invariant (rw (← c.self.view_is) at c.requires.room)
    c.brief_of-brief.ensures.short c.brief_of-brief.ensures.frames_capacity c.brief_of-brief.ensures.causes_capacity
    (rw (c.brief_of-brief.ensures.frames) at c.brief_of-brief.ensures.has_frames) (rw (c.brief_of-brief.ensures.causes) at c.brief_of-brief.ensures.has_cause)
    (rw (c.brief_of-brief.ensures.value) (never_wide _ _ _ (shown c.args.e.now))))

-- the new entry is behind the others
pub returns : goal.returns
returns c =
    rw (← c.self.view_is)
    (ap (λ (es : List Entry). recorded es (c.self.inside.spare - 1))
    (rw (c.push_reserved.ensures.items, c.brief_of-brief.ensures.frames, c.brief_of-brief.ensures.causes, c.brief_of-brief.ensures.value)
    (entries_more c.self.inside.frames.items c.self.inside.causes.items c.self.inside.wide.items c.self.inside.briefs.items (shown c.args.e.now) c.self.invariant.has_frames c.self.invariant.has_causes)))
