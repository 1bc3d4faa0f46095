use Rattle.std.proofs.Common.{◌≡◌, ◌++◌, sym, subst}
use Rattle.std.specs.Prelude.{IfOk}
use Rattle.dim_stack.specs.Names.{HasNames, table_of}
use Rattle.dim_stack.proofs.Exports.{has_second}
use Rattle.text_tests.proofs.histories.wider.Goals as goal

pub returns : goal.returns
returns g c =
    let names = c.args.h.now.names in
    let more = c.history_of-more.result.names in
    let is : c.expect.result ≡ table_of (more ++ names) = subst (λ r. IfOk r (λ n. n ≡ table_of (more ++ names))) c.expect.ensures c.merge.ensures in
    subst (λ t. HasNames t names) (sym is) (has_second more names names (λ name there. there))
