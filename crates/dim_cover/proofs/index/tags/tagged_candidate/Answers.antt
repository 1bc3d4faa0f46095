use Rattle.std.proofs.Common.{◌∙◌, ap, sym, false, get_or}
use Rattle.dim_cover.proofs.Tagged.{unwanted}
use Rattle.dim_cover.proofs.index.tags.tagged_candidate.Goals as goal

pub returns-else-wanted-tag : goal.returns-else-wanted-tag
returns-else-wanted-tag c =
    let sig = c.args.sig.now in
    let e = c.args.e.now in
    sym (unwanted sig.depth sig.stacks c.args.wanted.now e c.requires.wanted (ap (λ n. get_or c.args.wanted.now n false) (sym c.requires.tag) ∙ c.if-wanted-tag.false))
