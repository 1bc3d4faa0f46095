use Rattle.std.proofs.Common.{◌≡◌, ◌∷◌, [], Some, None, OnOk, arith, rules, sym, subst}
use Rattle.std.proofs.lemmas.Grind.{common_steps}
use Rattle.dim_stack.specs.Names.{HasNamesOf}
use Rattle.dim_history_file.specs.Naming.{names_in_word}
use Rattle.dim_history_file.proofs.Using.{has_place, name_in_word, put_known, put_none}
use Rattle.dim_history_file.proofs.names.add_word.Goals as goal

pub returns-then-is_at : goal.returns-then-is_at
returns-then-is_at c =
    let keys = c.args.table.now.keys in
    let function = c.in-Some.function.now in
    put_known keys c.args.word.now function c.in-Some.field-0-1.now (grind (arith, common_steps)) (has_place keys c.guess.result function (c.is_at.ensures (search rules)))

pub returns-in-Some-name : goal.returns-in-Some-name
returns-in-Some-name c =
    let is : names_in_word c.args.word.now ≡ c.in-Some-name.name.now ∷ [] =
    name_in_word c.args.word.now c.in-Some.function.now c.in-Some.field-0-1.now (Some c.in-Some-name.name) (grind (arith, common_steps)) (search rules) in
    subst (λ ns. OnOk c.add_name.result (HasNamesOf c.args.table.now.keys ns c.add_name.new.table.keys)) (sym is) c.add_name.ensures

pub returns-in-None : goal.returns-in-None
returns-in-None c =
    put_none c.args.table.now.keys (names_in_word c.args.word.now)
    (name_in_word c.args.word.now c.in-Some.function.now c.in-Some.field-0-1.now None (grind (arith, common_steps)) (search rules))
