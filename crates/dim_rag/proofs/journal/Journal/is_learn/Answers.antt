use Rattle.std.proofs.Common.{◌≡◌, ◌<◌, subst, length, map}
use Rattle.std.specs.Prelude.{Some, slice_get}
use Rattle.dim_rag.specs.Journal.{Recorded, entry_in_full}
use Rattle.dim_rag.specs.Yielded.{is_learn}
use Rattle.dim_rag.proofs.AtPlaces.{at_place}
use Rattle.dim_rag.proofs.journal.Journal.is_learn.Goals as goal

pub returns : goal.returns
returns c =
    subst (λ (x : Recorded). c.args.place < length x.entries → slice_get (map is_learn x.entries) c.args.place ≡ Some c.is_learn.result) c.self.view_is
    (λ low. at_place (entry_in_full c.self.inside.frames.items c.self.inside.causes.items c.self.inside.wide.items) is_learn c.self.inside.briefs.items c.args.place c.index.result.now c.is_learn.result low c.index.ensures (rw (c.deref.ensures.value) at (c.is_learn.ensures c.self.inside.frames.items c.self.inside.causes.items)))
    c.requires
