use Rattle.std.proofs.Common.{◌≡◌, ℕ, List, [], ◌++◌, IfOk, refl, ap, sym, ◌∙◌, subst}
use Rattle.std.proofs.lemmas.List.{append-nil}
use Rattle.dim_stack.specs.Names.{AreAscending, table_of}
use Rattle.dim_stack.proofs.Exports.{only_table}
use Rattle.dim_tune.proofs.immunizing.copied_names.Goals as goal

-- a table merged with none
with_none : (names none : List (List ℕ)) → AreAscending names → none ≡ [] → table_of (names ++ none) ≡ names
with_none names none up e = ap (λ n. table_of (names ++ n)) e ∙ ap table_of (append-nil names) ∙ sym (only_table names names up (λ q. refl))

pub returns : goal.returns
returns c = subst (λ t. IfOk c.merge.result (λ n. n ≡ t)) (with_none c.args.names.now c.in_ok-none.none c.len-few.ensures.table.ascending c.in_ok-none.ensures) c.merge.ensures
