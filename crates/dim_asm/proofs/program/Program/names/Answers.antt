use Rattle.std.proofs.Common.{rules, ◌≡◌, ◌≤◌, All, length, sym, subst}
use Rattle.dim_text.specs.Naming.{IsName}
use Rattle.dim_stack.specs.Names.{HasNames}
use Rattle.dim_asm.specs.Code.{func_names, IsProgram}
use Rattle.dim_asm.proofs.BoundLemmas.{own, named, few_own_names, own_is}
use Rattle.dim_asm.proofs.program.Program.names.Goals as goal

pub of-requires-clause-named : goal.of-requires-clause-named
of-requires-clause-named c =
    let h = subst IsProgram c.self.view_is c.self.invariant in
    let is : c.deref-2.result.now ≡ func_names c.args.self.now.funcs = search rules in
    subst (All IsName) (sym is) (named (func_names c.args.self.now.funcs) h.names)

pub returns-clause-known : goal.returns-clause-known
returns-clause-known c =
    let is : c.deref-2.result.now ≡ func_names c.args.self.now.funcs = search rules in
    own_is c.args.self.now c.of.result c.deref-2.result.now (λ names. HasNames names (func_names c.args.self.now.funcs)) is (own c.args.self.now) c.of.ensures

pub returns-clause-few : goal.returns-clause-few
returns-clause-few c =
    let h = subst IsProgram c.self.view_is c.self.invariant in
    let is : c.deref-2.result.now ≡ func_names c.args.self.now.funcs = search rules in
    own_is c.args.self.now c.of.result c.deref-2.result.now (λ names. length names ≤ 256) is (few_own_names c.args.self.now h) c.of.ensures
