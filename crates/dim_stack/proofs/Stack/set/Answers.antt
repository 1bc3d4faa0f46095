use Rattle.std.proofs.Common.{◌≡◌, ◌++◌, List, drop, subst, sym, arith}
use Rattle.dim_stack.specs.declared.Frame.{Frame}
use Rattle.dim_base.specs.Filled.{IsFilled}
use Rattle.dim_stack.specs.Filled.{no_frame}
use Rattle.dim_stack.proofs.Filling.{put_over}
use Rattle.dim_stack.proofs.Stack.set.Goals as goal

pub invariant_of-self : goal.invariant_of-self
invariant_of-self c =
    let own = c.self.inside in
    let other = c.other.inside in
    let most = c.max-most.result in
    let is : c.copy_from_slice.new.self ++ drop most own.frames ≡ other.frames = put_over own.len other.len most own.frames other.frames c.copy_from_slice.new.self c.self.invariant.1 c.other.invariant.1 (grind arith) (grind arith) (grind arith) c.copy_from_slice.ensures.after in
    (c.other.invariant.0, subst (λ (l : List Frame). IsFilled 32 no_frame other.len l) (sym is) c.other.invariant.1)
