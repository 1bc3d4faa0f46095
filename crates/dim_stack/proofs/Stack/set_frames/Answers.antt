use Rattle.std.proofs.Common.{◌≡◌, ◌∙◌, ◌-◌, ap, length, take, arith}
use Rattle.std.specs.Prelude.{replicate}
use Rattle.std.proofs.lemmas.List.{drop-replicate, take-replicate}
use Rattle.dim_stack.specs.Filled.{no_frame}
use Rattle.dim_stack.proofs.Filling.{blanked, longer}
use Rattle.dim_stack.proofs.Stack.set_frames.Goals.{then-len-self, else-len-self}
use Rattle.dim_stack.proofs.Stack.set_frames.Goals as goal

pub invariant_of-self : goal.invariant_of-self
invariant_of-self c =
    let frames = c.args.frames.now in
    let len = length frames in
    let own = c.self.inside in (
      c.requires.some,
      elim c.if-len-self.branch [
        | then-len-self w ↦
            let none : w.copy_from_slice-then-len-self.new.self ≡ replicate (own.len - len) no_frame =
            w.copy_from_slice-then-len-self.ensures.after ∙ ap (take (own.len - len)) (drop-replicate len 32 no_frame) ∙ take-replicate (own.len - len) (32 - len) no_frame (grind arith) in
            rw w.self-inside-is (blanked own.len own.len own.frames frames c.copy_from_slice.new.self w.copy_from_slice-then-len-self.new.self c.self.invariant.1 c.copy_from_slice.ensures.after (grind arith) (grind arith) (grind arith) none)
        | else-len-self w ↦ rw w.self-inside-is (longer own.len own.frames frames c.copy_from_slice.new.self c.self.invariant.1 c.copy_from_slice.ensures.after (grind arith) c.requires.few)
      ],
    )
