use Rattle.std.proofs.Common.{sym, ap, ◌∙◌}
use Rattle.std.proofs.lemmas.List.Sorted.{IsPermutation-refl}
use Rattle.dim_signature.specs.Sig.{Sig}
use Rattle.dim_history_file.specs.Signing.{opened}
use Rattle.dim_signature.proofs.Exports.{only_sorted}
use Rattle.dim_history_file.proofs.signing.signature.Goals as goal

pub returns-in-Ok : goal.returns-in-Ok
returns-in-Ok c =
    let stacks = c.args.stacks.now in
    let o = c.args.opening in
    c.noted.ensures
    ∙ ap (λ (s : Sig). let t : Sig = record s { on = o.on; yields = o.yields } in t) c.in-Ok.ensures.ok
    ∙ ap (opened o) (sym (only_sorted stacks stacks (IsPermutation-refl stacks) c.requires.sorted))
