use Rattle.dim_cover.proofs.Other.{no_other}
use Rattle.dim_cover.proofs.index.Index.lacks_cover.Goals as goal

pub returns-then-lacks_other : goal.returns-then-lacks_other
returns-then-lacks_other c = λ t.
    no_other c.args.self.now.edges c.args.new_edge.now c.args.catalogue.now.sigs c.args.place.now (c.requires.told (c.lacks_other.ensures.told t)) (c.lacks_other.ensures.none t)
