use Rattle.std.proofs.Common.{ap, ◌∙◌}
use Rattle.dim_signature.specs.Catalogue.{Contents}
use Rattle.dim_history_file.specs.Value.{named}
use Rattle.dim_inquiry.proofs.SwitchLemmas.{named_switched}
use Rattle.dim_inquiry.proofs.switching.switched_history.Goals as goal

pub returns : goal.returns
returns c =
    let names = c.args.history.names in
    let sigs = c.args.history.catalogue.sigs in
    ap (λ (k : Contents). named names k.sigs) c.switch.ensures ∙ named_switched names sigs c.args.index c.args.on c.requires
