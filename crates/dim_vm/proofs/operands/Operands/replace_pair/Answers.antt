use Rattle.std.proofs.Common.{arith, rules, ap, ◌∙◌, ◌∷◌, pos, length}
use Rattle.std.proofs.lemmas.Int.{to_z-of_z}
use mir.Val.{SFits}
use mir.Syntax.{w64}
use Rattle.dim_vm.proofs.Tops.{rest_two, length_seen}
use Rattle.dim_vm.proofs.operands.Operands.replace_pair.Goals as goal

pub returns-clause-value : goal.returns-clause-value
returns-clause-value c =
    let fits : SFits w64 c.args.n = search rules in
    c.put.ensures ∙ simp to_z-of_z (ap (λ r. c.args.n ∷ r)
    (rest_two c.self.inside.cells c.self.inside.len _ (pos 0) c.self.view_is (omega (arith, c.requires, ap length c.self.view_is, length_seen c.self.inside.cells c.self.inside.len (omega arith))) (omega arith)))
