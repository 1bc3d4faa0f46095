use Rattle.std.proofs.Common.{◌≡◌, Some, ap, sym, ◌∙◌}
use Rattle.std.proofs.lemmas.Slice.Eq.{bytes_eq-Decides}
use Rattle.dim_stack.proofs.NumberLemmas.{own}
use Rattle.dim_stack.proofs.names.Names.has_number.Goals as goal

pub returns-then-number-len : goal.returns-then-number-len
returns-then-number-len c is =
    let word = c.as_slice.result.now in
    let same : word ≡ c.args.name.now = (bytes_eq-Decides word c.args.name.now).0 (sym c.is_word.ensures ∙ is) in
    own c.args.self.now c.len.ensures.table.ascending c.args.number c.args.name.now (c.name.ensures.name ∙ ap Some (sym c.as_slice.ensures ∙ same))
