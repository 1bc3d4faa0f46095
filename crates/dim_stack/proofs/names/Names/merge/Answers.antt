use Rattle.std.proofs.Common.{◌++◌, ◌<◌, ◌^◌, All, length, subst, ◌∙◌, arith, length-append}
use Rattle.std.proofs.lemmas.List.Elements.{All-append}
use Rattle.dim_text.specs.Naming.{IsName}
use Rattle.dim_stack.specs.Names.{HasNamesOf}
use Rattle.dim_stack.proofs.TableLemmas.{is_table-table_of, names_of_both, table-same}
use Rattle.dim_stack.proofs.names.Names.merge.Goals as goal

pub returns : goal.returns
returns c =
    let first : HasNamesOf c.new-table.result.keys c.args.a.now c.add_words.new.table.keys =
    subst (λ xs. HasNamesOf c.new-table.result.keys xs c.add_words.new.table.keys) (c.as_slice.ensures.keys ∙ c.a.view_is) c.in_ok-add_words.ensures in
    let second : HasNamesOf c.add_words.new.table.keys c.args.b.now c.add_words-2.new.table.keys =
    subst (λ xs. HasNamesOf c.add_words.new.table.keys xs c.add_words-2.new.table.keys) (c.as_slice-2.ensures.keys ∙ c.b.view_is) c.in_ok-add_words-2.ensures in
    c.in_ok-sort_words.ensures
    ∙ table-same c.add_words-2.new.table.keys (c.args.a.now ++ c.args.b.now)
    (names_of_both c.new-table.result.keys c.args.a.now c.args.b.now c.add_words.new.table.keys c.add_words-2.new.table.keys c.new-table.ensures.empty first second)

pub invariant_of-result : goal.invariant_of-result
invariant_of-result c =
    let a : All IsName c.args.a.now = subst (All IsName) c.a.view_is c.a.invariant.named in
    let b : All IsName c.args.b.now = subst (All IsName) c.b.view_is c.b.invariant.named in
    let few : length (c.args.a.now ++ c.args.b.now) < 2 ^ 32 = omega (arith, length-append c.args.a.now c.args.b.now) in
    rw (returns c) (is_table-table_of (c.args.a.now ++ c.args.b.now) few (All-append IsName c.args.a.now c.args.b.now a b))
