use Rattle.std.proofs.Common.{◌≡◌, ◌-◌, Some, length, sym, ap, ◌∙◌, subst}
use Rattle.std.specs.Prelude.{slice_get}
use Rattle.std.specs.Ordering.{is_lt}
use Rattle.dim_history_file.proofs.Taking.{less_named}
use Rattle.dim_history_file.proofs.reader.Reader.is_less_than_last.Goals as goal

pub returns-in-Some : goal.returns-in-Some
returns-in-Some c =
    let stacks = c.args.self.now.stacks.items in
    let last = c.in-Some.last.now in
    let at : slice_get stacks (length stacks - 1) ≡ Some last = subst (λ xs. slice_get xs (length xs - 1) ≡ Some last) c.deref.ensures.value (sym c.in-Some.ensures.value) in
    let r = c.requires.reading in
    c.is_lt.ensures ∙ ap is_lt c.compare.ensures.value ∙ sym (less_named c.args.self.now.names r.ascending c.args.stack.now stacks last at c.requires.named r.stacks)
