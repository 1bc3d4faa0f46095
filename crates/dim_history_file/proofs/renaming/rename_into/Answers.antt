use Rattle.std.proofs.Common.{map, ap, sym, ◌∙◌}
use Rattle.dim_history_file.specs.Value.{NamedSig, named}
use Rattle.dim_history_file.proofs.Sound.{depths_named, near_renamed}
use Rattle.dim_history_file.proofs.renaming.rename_into.Goals as goal

pub returns-clause-depths : goal.returns-clause-depths
returns-clause-depths c =
    sym (depths_named c.args.names c.in_ok-catalogue.catalogue.sigs)
    ∙ ap (map (λ (s : NamedSig). s.depth)) (c.in_ok-catalogue.ensures.same ∙ ap (named c.args.h.names) c.into_list-sigs.ensures.list)
    ∙ depths_named c.args.h.names c.args.h.catalogue.sigs

pub returns-clause-near : goal.returns-clause-near
returns-clause-near c near =
    near_renamed c.args.h.names c.args.names c.args.h.catalogue.sigs c.in_ok-catalogue.catalogue.sigs (c.in_ok-catalogue.ensures.same ∙ ap (named c.args.h.names) c.into_list-sigs.ensures.list) near
