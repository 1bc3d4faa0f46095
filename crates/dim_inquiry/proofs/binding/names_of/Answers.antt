use Rattle.std.proofs.Common.{List, ℕ, sym, subst}
use Rattle.dim_stack.specs.Names.{HasNames}
use Rattle.dim_asm.specs.Code.{func_names}
use Rattle.dim_inquiry.proofs.binding.names_of.Goals as goal

pub returns-clause-known : goal.returns-clause-known
returns-clause-known c =
    let funcs = func_names c.args.program.now.funcs in
    let own = c.in_ok-own.own in
    let known = c.merged_law.ensures.first own c.args.history.now.names funcs c.in_ok-own.ensures.known in
    subst (λ (n : List (List ℕ)). HasNames n funcs) (sym c.in_ok-names.ensures) known

pub returns-clause-covers : goal.returns-clause-covers
returns-clause-covers c =
    let h = c.args.history.now.names in
    subst (λ (n : List (List ℕ)). HasNames n h) (sym c.in_ok-names.ensures) (c.merged_law.ensures.second c.in_ok-own.own h h (λ name there. there))
