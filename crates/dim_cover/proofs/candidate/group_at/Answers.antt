use Rattle.std.proofs.Common.{◌≡◌, ◌∙◌, ap, sym, refl, subst, arith, drop, take}
use Rattle.std.proofs.lemmas.Option.{same_Some}
use Rattle.dim_cover.specs.Candidates.{group_of}
use Rattle.dim_cover.proofs.Groups.{found_from, frames_same, group_here, group_next}
use Rattle.dim_cover.proofs.candidate.group_at.Goals as goal

pub returns-then-agree : goal.returns-then-agree
returns-then-agree c = λ stack at.
    ap (group_of c.args.sig.now.depth c.args.sig.now.stacks) (same_Some stack c.stack-stack.result.now (sym at ∙ c.stack-stack.ensures))
    ∙ c.loop-j.invariant
    ∙ group_here c.args.sig.now.depth c.stack-stack.result.now c.args.sig.now.stacks c.loop-j.j c.depth.result c.stack.result.now c.depth.ensures.depth c.stack.ensures (sym c.agree.ensures ∙ c.if-agree.true)

pub loop-j-preserved : goal.loop-j-preserved
loop-j-preserved c =
    c.loop-j.invariant ∙ group_next c.args.sig.now.depth c.stack-stack.result.now c.args.sig.now.stacks c.loop-j.j c.depth.result c.stack.result.now c.depth.ensures.depth c.stack.ensures (sym c.agree.ensures ∙ c.if-agree.false)

pub returns : goal.returns
returns c = λ stack at.
    let here = c.stack-stack.result.now in
    ap (group_of c.args.sig.now.depth c.args.sig.now.stacks) (same_Some stack here (sym at ∙ c.stack-stack.ensures))
    ∙ subst (λ n. group_of c.args.sig.now.depth c.args.sig.now.stacks here ≡ found_from c.args.sig.now.depth (take c.args.sig.now.depth here) n (drop n c.args.sig.now.stacks)) (omega (arith, c.loop-j-test.false, c.loop-j.auto)) c.loop-j.invariant
    ∙ group_here c.args.sig.now.depth here c.args.sig.now.stacks c.args.i c.args.sig.now.depth here refl c.stack-stack.ensures (frames_same (take c.args.sig.now.depth here) (take c.args.sig.now.depth here) refl)
