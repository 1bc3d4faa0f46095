use Rattle.std.proofs.Common.{sym, ◌∙◌}
use Rattle.dim_merge.proofs.Counting.{yields_found, yields_missing}
use Rattle.dim_merge.proofs.parts.yields_for.Goals as goal

pub returns-in-Some : goal.returns-in-Some
returns-in-Some c =
    c.yields.ensures
    ∙ yields_found c.args.catalogue.now.sigs c.args.stacks.now c.in-Some.number c.get.result.now (sym c.find.ensures ∙ c.in-Some.is) c.get.ensures.value

pub returns-in-None : goal.returns-in-None
returns-in-None c = yields_missing c.args.catalogue.now.sigs c.args.stacks.now (sym c.find.ensures ∙ c.in-None.is)
