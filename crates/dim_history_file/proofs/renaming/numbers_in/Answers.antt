use Rattle.std.proofs.Common.{◌≡◌, ◌++◌, ◌∷◌, [], Some, map, ap, ap₂, sym, ◌∙◌}
use Rattle.std.proofs.lemmas.List.{map_push}
use Rattle.dim_stack.specs.Names.{name_number}
use Rattle.dim_stack.proofs.Exports.{has_contains, contains_has}
use Rattle.dim_history_file.proofs.Sound.{map_one_more}
use Rattle.dim_history_file.proofs.Using.{some_number, has_place}
use Rattle.dim_history_file.proofs.renaming.numbers_in.Goals as goal

pub unwrap-found-requires : goal.unwrap-found-requires
unwrap-found-requires c =
    let name = c.name.result.now in
    some_number c.args.to.now name c.number_in.result c.number_in.ensures (contains_has name c.args.to.now (c.requires name (has_contains name c.args.from.now (has_place c.args.from.now c.loop-n.n name c.name.ensures.name))))

pub loop-n-preserved : goal.loop-n-preserved
loop-n-preserved c =
    let number = name_number c.args.to.now in
    let numbers = c.loop-n.numbers.items in
    let name = c.name.result.now in
    let is : Some c.unwrap-found.result ≡ number name = sym (sym c.number_in.ensures ∙ c.unwrap-found.ensures) in
    ap (map (λ n. Some n)) c.in_ok-push.ensures.items
    ∙ map_push (λ n. Some n) numbers c.unwrap-found.result
    ∙ ap₂ (λ a b. a ++ b ∷ []) c.loop-n.invariant is
    ∙ sym (map_one_more number c.args.from.now c.loop-n.n name c.name.ensures.name)
