use Rattle.std.proofs.Common.{◌≡◌, List, ap, sym, ◌∙◌, subst, inl, inr, arith}
use Rattle.std.specs.Prelude.{slice_get}
use Rattle.std.proofs.lemmas.Bool.{cases_lt}
use Rattle.std.proofs.lemmas.Option.{same_Some, slice_get_within}
use Rattle.dim_stack.specs.declared.Frame.{Frame}
use Rattle.dim_rag.specs.Born.{In}
use Rattle.dim_tune.specs.Innermost.{filed}
use Rattle.dim_tune.proofs.Filing.{gains_on}
use Rattle.dim_tune.proofs.innermost.file_if_on.Goals as goal

pub loop-j-preserved : goal.loop-j-preserved
loop-j-preserved c =
    let stacks = c.args.sig.now.stacks in
    let v = c.loop-j.invariant in
    let e = c.in_ok-file.ensures in
    record {
      gains = gains_on c.args.files.now c.loop-j.files c.file.new.files c.args.i v.gains e.gains;
      filed = λ k x f low at first. elim (cases_lt k c.loop-j.j) [
        | inl before ↦ (e.gains f).kept c.args.i (v.filed k x f before at first)
        | inr last ↦
            let same : c.loop-j.j ≡ k = omega (arith, low, last) in
            let stack : c.stack.result.now ≡ x = same_Some c.stack.result.now x (sym c.stack.ensures ∙ ap (λ n. slice_get stacks n) same ∙ at) in
            let frame : c.first_frame.result ≡ f = same_Some c.first_frame.result f (sym c.first_frame.ensures ∙ ap (λ (y : List Frame). slice_get y 0) stack ∙ first) in
            subst (λ (g : Frame). In c.args.i (filed c.file.new.files g)) frame e.own
      ];
    }

pub returns-clause-filed : goal.returns-clause-filed
returns-clause-filed c =
    λ on j x f at first. c.loop-j.invariant.filed j x f (let low = slice_get_within c.args.sig.now.stacks j x at in omega (arith, low, c.loop-j-test.false, c.len-j-end.ensures.len)) at first
