use Rattle.std.proofs.Common.{◌≡◌, ◌≤◌, length, sym, ap₂, ◌∙◌, subst}
use Rattle.dim_history_file.specs.Grammar.{IsHistory}
use Rattle.dim_history_file.specs.Seen.{value_of}
use Rattle.dim_history_file.specs.Value.{NamedSig}
use Rattle.std.specs.Prelude.{List}
use Rattle.dim_merge.specs.Merging.{merged}
use Rattle.dim_merge.specs.Parts.{sigs_of}
use Rattle.dim_merge.proofs.Merged.{history}
use Rattle.dim_merge.proofs.merging.merge.Goals as goal

pub returns-clause-history : goal.returns-clause-history
returns-clause-history c =
    λ h k.
    let first = value_of c.args.first in
    let second = value_of c.args.second in
    let parts : sigs_of c.in_ok-parts.parts ≡ merged first second = c.in_ok-parts.ensures.sigs ∙ ap₂ merged c.in_ok-both.ensures.first c.in_ok-both.ensures.second in
    let few = subst (λ (ss : List NamedSig). length ss ≤ 4096) parts c.in_ok-check_size.ensures.few in
    subst IsHistory (sym (c.in_ok-joined.ensures.value ∙ parts)) (history first second h k few)
