use Rattle.std.proofs.Common.{◌≡◌, ◌∙◌, ap, sym, arith, List, length}
use Rattle.dim_base.specs.Filled.{len_back}
use Rattle.dim_base.proofs.Filling.{filled_more}
use Rattle.dim_stack.specs.declared.Frame.{Frame}
use Rattle.dim_stack.specs.Filled.{no_frame}
use Rattle.dim_stack.proofs.Stack.push.Goals as goal

pub invariant_of-self : goal.invariant_of-self
invariant_of-self c =
    let seen : length c.args.self.now ≡ c.self.inside.len = sym (ap (λ (xs : List Frame). length xs) c.self.view_is) ∙ len_back 32 no_frame c.self.inside.len c.self.inside.frames c.self.invariant.1 in
    (omega arith, filled_more 32 no_frame c.self.inside.len c.self.inside.frames c.args.frame c.self.invariant.1 (omega (arith, c.requires, seen)))
