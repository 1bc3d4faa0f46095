use Rattle.std.proofs.Common.{◌≡◌, ◌<◌, subst, length, map}
use Rattle.std.specs.Prelude.{Some, slice_get}
use Rattle.dim_rag.specs.Journal.{Recorded, entry_in_full}
use Rattle.dim_rag.specs.Yielded.{yielded}
use Rattle.dim_rag.proofs.AtPlaces.{at_place}
use Rattle.dim_rag.proofs.journal.Journal.yielded.Goals as goal

pub returns : goal.returns
returns c =
    subst (λ (x : Recorded). c.args.place < length x.entries → slice_get (map yielded x.entries) c.args.place ≡ Some c.yielded.result) c.self.view_is
    (λ low. at_place (entry_in_full c.self.inside.frames.items c.self.inside.causes.items c.self.inside.wide.items) yielded c.self.inside.briefs.items c.args.place c.index.result.now c.yielded.result low c.index.ensures (rw (c.deref.ensures.value, c.deref-2.ensures.value) at (c.yielded.ensures c.self.inside.frames.items)))
    c.requires
