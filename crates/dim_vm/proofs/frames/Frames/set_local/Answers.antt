use Rattle.std.proofs.Common.{arith, rules, set}
use Rattle.std.proofs.lemmas.Int.{to_z-of_z}
use mir.Val.{SFits}
use mir.Syntax.{w64}
use Rattle.dim_vm.proofs.Callers.{set_newest, frames_set}
use Rattle.dim_vm.proofs.frames.Frames.set_local.Goals as goal

pub returns : goal.returns
returns c =
    let fits : SFits w64 c.args.n = search rules in
    simp to_z-of_z (set_newest c.self.inside.frames c.self.inside.len _ (λ f. record f { locals = set f.locals c.args.i c.args.n }) _ (omega arith) (omega arith) c.self.view_is)

pub invariant_of-self : goal.invariant_of-self
invariant_of-self c = frames_set c.self.inside.len c.self.inside.frames _ c.self.invariant
