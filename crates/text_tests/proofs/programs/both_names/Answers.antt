use Rattle.std.proofs.Common.{◌≡◌, ◌++◌, sym, subst}
use Rattle.std.proofs.lemmas.Result.{IfOk-weaker}
use Rattle.dim_stack.specs.Names.{HasNames, table_of}
use Rattle.dim_asm.specs.Code.{func_names}
use Rattle.text_tests.proofs.programs.both_names.Goals as goal

pub returns : goal.returns
returns c =
    let p = c.args.p.now in
    let own = c.in_ok-names.field-0 in
    let others = c.in_ok-names-2.field-0 in
    let known = c.merged_law.ensures.first own others (func_names p.funcs) c.in_ok-names.ensures.known in
    IfOk-weaker c.merge-3.result (λ names. names ≡ table_of (own ++ others)) (λ names. HasNames names (func_names p.funcs)) (λ names is. subst (λ table. HasNames table (func_names p.funcs)) (sym is) known) c.merge-3.ensures
