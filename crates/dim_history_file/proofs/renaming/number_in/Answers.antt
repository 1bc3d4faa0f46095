use Rattle.std.proofs.Common.{Some, ap, sym, ◌∙◌}
use Rattle.std.proofs.lemmas.Slice.Eq.{bytes_eq-Decides}
use Rattle.dim_stack.proofs.Exports.{own}
use Rattle.dim_history_file.proofs.renaming.number_in.Goals as goal

pub returns-then-is_word : goal.returns-then-is_word
returns-then-is_word c =
    let word = c.as_slice.result.now in
    let same = (bytes_eq-Decides word c.as_slice-then-guess-len.result.now).0 (sym c.is_word.ensures ∙ c.if-is_word.true) in
    sym (own c.args.names.now c.len.ensures.table.ascending c.args.guess c.args.name.now (c.name.ensures.name ∙ ap Some (sym c.as_slice.ensures ∙ same ∙ c.as_slice-then-guess-len.ensures)))
