use Rattle.std.proofs.Common.{◌≡◌, ◌+◌, Ok, length, map, get_or, drop, pos, arith, sym, ap, ◌∙◌, subst}
use Rattle.std.proofs.lemmas.List.{drop_more, drop_all}
use Rattle.std.proofs.lemmas.Result.{err_from_is_err_and}
use Rattle.dim_text.specs.Reading.{Fails, in_line}
use Rattle.std.specs.Prelude.{Vec}
use Rattle.std.specs.declared.alloc.Global.{Global}
use Rattle.dim_asm.specs.declared.op.Op.{Op}
use Rattle.dim_asm.specs.declared.draft.Draft.TheVariants.{Ready}
use Rattle.dim_asm.specs.declared.op.Op.TheVariants.{Push}
use Rattle.dim_asm.specs.Faults.{fault, fault_of}
use Rattle.dim_asm.specs.Linking.{link_draft, each_line}
use Rattle.dim_asm.specs.Seen.{seen_draft}
use Rattle.dim_asm.specs.Tables.{seen}
use Rattle.dim_asm.proofs.LinkLemmas.{behind, each_line-step, each_line-fails, each_line-none, exits}
use Rattle.dim_asm.proofs.linker.Tables.drafts.Goals as goal

pub returns-in_err-op : goal.returns-in_err-op
returns-in_err-op c =
    let p = err_from_is_err_and c.from_residual.result c.from_residual.ensures.1 in
    let i = c.loop-draft.draft-index in
    let xs = c.args.drafts.now in
    let link = link_draft (seen c.args.self.now) (length xs) in
    let here = seen_draft (get_or xs i (Ready (Push (pos 0)))) in
    let rest = map seen_draft (drop (i + 1) xs) in
    let done = c.loop-draft.ops.items in
    let split = ap (map seen_draft) (drop_more xs i (Ready (Push (pos 0))) c.loop-draft-test.true) in
    let failed : Fails (fault_of c.in_err-op.field-0.0) (in_line fault c.loop-draft.line (link here)) =
    subst (λ r. Fails (fault_of c.in_err-op.field-0.0) (in_line fault c.loop-draft.line r)) c.draft.ensures c.in_err-op.ensures in
    let all = each_line-fails link c.loop-draft.line here rest done (fault_of c.in_err-op.field-0.0) failed in
    let whole = ap (λ ds. behind done (each_line link c.loop-draft.line ds)) (sym split) ∙ c.loop-draft.invariant.same in
    exits fault_of (λ (ops : Vec Op Global). ops.items) c.from_residual.result p.0 c.in_err-op.field-0.0 _ p.1 p.2 (subst (Fails (fault_of c.in_err-op.field-0.0)) whole all)

pub loop-draft-preserved : goal.loop-draft-preserved
loop-draft-preserved c =
    let i = c.loop-draft.draft-index in
    let xs = c.args.drafts.now in
    let link = link_draft (seen c.args.self.now) (length xs) in
    let here = seen_draft (get_or xs i (Ready (Push (pos 0)))) in
    let rest = map seen_draft (drop (i + 1) xs) in
    let done = c.loop-draft.ops.items in
    let split = ap (map seen_draft) (drop_more xs i (Ready (Push (pos 0))) c.loop-draft-test.true) in
    let linked : in_line fault c.loop-draft.line (link here) ≡ Ok c.in_ok-op.op = ap (in_line fault c.loop-draft.line) (sym c.draft.ensures) ∙ c.in_ok-op.ensures in
    record {
      line = omega (arith, c.loop-draft.invariant.line);
      same =
          ap (λ ops. behind ops (each_line link (c.loop-draft.line + 1) rest)) c.in_ok-push.ensures.items
          ∙ sym (each_line-step link c.loop-draft.line here rest c.in_ok-op.op done linked)
          ∙ ap (λ ds. behind done (each_line link c.loop-draft.line ds)) (sym split)
          ∙ c.loop-draft.invariant.same;
    }

pub returns : goal.returns
returns c =
    let xs = c.args.drafts.now in
    let link = link_draft (seen c.args.self.now) (length xs) in
    let none_left = ap (map seen_draft) (drop_all c.loop-draft.draft-index xs c.loop-draft-test.false) in
    sym c.loop-draft.invariant.same
    ∙ ap (λ ds. behind c.loop-draft.ops.items (each_line link c.loop-draft.line ds)) none_left
    ∙ each_line-none link c.loop-draft.line c.loop-draft.ops.items
