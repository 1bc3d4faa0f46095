use Rattle.std.proofs.Common.{◌≡◌, length, sym, ap, ◌∙◌}
use Rattle.std.proofs.lemmas.List.{length-map}
use Rattle.dim_history_file.specs.declared.history.History.{History}
use Rattle.dim_history_file.specs.Seen.{value_of}
use Rattle.dim_history_file.specs.Value.{named_sig}
use Rattle.dim_merge.proofs.Counted.{added_few, counted}
use Rattle.dim_merge.proofs.making.merge_counted.Goals as goal

sigs_length : (h : History) → length h.catalogue.sigs ≡ length (value_of h)
sigs_length h = sym (length-map h.catalogue.sigs (named_sig h.names))

pub overflow_sub-counts : goal.overflow_sub-counts
overflow_sub-counts c =
    let first = c.args.both.first in
    let second = c.args.both.second in
    added_few (value_of first) (value_of second) c.len-signatures.result c.len-first_has.result c.len-second_has.result
    (c.len-signatures.ensures.len ∙ sigs_length c.in_ok-history.history ∙ ap length c.in_ok-history.ensures.merged)
    (c.len-first_has.ensures.len ∙ sigs_length first) (c.len-second_has.ensures.len ∙ sigs_length second)

pub returns-clause-counts : goal.returns-clause-counts
returns-clause-counts c =
    let first = c.args.both.first in
    let second = c.args.both.second in
    let h = c.in_ok-history.history in
    counted (value_of first) (value_of second) (value_of h) c.len-signatures.result c.len-first_has.result c.len-second_has.result
    c.in_ok-history.ensures.merged (c.len-signatures.ensures.len ∙ sigs_length h) (c.len-first_has.ensures.len ∙ sigs_length first) (c.len-second_has.ensures.len ∙ sigs_length second)
