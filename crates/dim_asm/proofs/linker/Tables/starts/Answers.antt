use Rattle.std.proofs.Common.{◌≡◌, ◌+◌, ◌∷◌, Ok, drop, arith, sym, ap, ◌∙◌, subst}
use Rattle.std.proofs.lemmas.List.{drop_more, drop_all}
use Rattle.std.proofs.lemmas.Result.{err_from_is_err_and}
use Rattle.dim_text.specs.Reading.{Fails, in_line}
use Rattle.std.specs.Prelude.{Vec}
use Rattle.std.specs.declared.alloc.Global.{Global}
use Rattle.dim_asm.specs.declared.start.Start.{Start}
use Rattle.dim_asm.specs.Faults.{fault, fault_of}
use Rattle.dim_asm.specs.Linking.{link_start, each_line}
use Rattle.dim_asm.specs.Tables.{seen}
use Rattle.dim_asm.proofs.LinkLemmas.{behind, each_line-step, each_line-fails, each_line-none, exits}
use Rattle.dim_asm.proofs.linker.Tables.starts.Goals as goal

pub returns-in_err-start : goal.returns-in_err-start
returns-in_err-start c =
    let p = err_from_is_err_and c.from_residual.result c.from_residual.ensures.1 in
    let i = c.loop-draft.draft-index in
    let xs = c.args.drafts.now in
    let link = link_start (seen c.args.self.now) in
    let here = c.draft-item.result in
    let rest = drop (i + 1) xs in
    let done = c.loop-draft.starts.items in
    let split : drop i xs ≡ here ∷ rest = drop_more xs i here c.loop-draft-test.true ∙ ap (λ x. x ∷ rest) (sym c.draft-item.is) in
    let failed : Fails (fault_of c.in_err-start.field-0.0) (in_line fault c.loop-draft.line (link here)) =
    subst (λ r. Fails (fault_of c.in_err-start.field-0.0) (in_line fault c.loop-draft.line r)) c.start.ensures c.in_err-start.ensures in
    let all = each_line-fails link c.loop-draft.line here rest done (fault_of c.in_err-start.field-0.0) failed in
    let whole = ap (λ ds. behind done (each_line link c.loop-draft.line ds)) (sym split) ∙ c.loop-draft.invariant.same in
    exits fault_of (λ (ops : Vec Start Global). ops.items) c.from_residual.result p.0 c.in_err-start.field-0.0 _ p.1 p.2 (subst (Fails (fault_of c.in_err-start.field-0.0)) whole all)

pub loop-draft-preserved : goal.loop-draft-preserved
loop-draft-preserved c =
    let i = c.loop-draft.draft-index in
    let xs = c.args.drafts.now in
    let link = link_start (seen c.args.self.now) in
    let here = c.draft-item.result in
    let rest = drop (i + 1) xs in
    let done = c.loop-draft.starts.items in
    let split : drop i xs ≡ here ∷ rest = drop_more xs i here c.loop-draft-test.true ∙ ap (λ x. x ∷ rest) (sym c.draft-item.is) in
    let linked : in_line fault c.loop-draft.line (link here) ≡ Ok c.in_ok-start.start = ap (in_line fault c.loop-draft.line) (sym c.start.ensures) ∙ c.in_ok-start.ensures in
    record {
      line = omega (arith, c.loop-draft.invariant.line);
      same =
          ap (λ ops. behind ops (each_line link (c.loop-draft.line + 1) rest)) c.in_ok-push.ensures.items
          ∙ sym (each_line-step link c.loop-draft.line here rest c.in_ok-start.start done linked)
          ∙ ap (λ ds. behind done (each_line link c.loop-draft.line ds)) (sym split)
          ∙ c.loop-draft.invariant.same;
    }

pub returns : goal.returns
returns c =
    let xs = c.args.drafts.now in
    let link = link_start (seen c.args.self.now) in
    let none_left = drop_all c.loop-draft.draft-index xs c.loop-draft-test.false in
    sym c.loop-draft.invariant.same
    ∙ ap (λ ds. behind c.loop-draft.starts.items (each_line link c.loop-draft.line ds)) none_left
    ∙ each_line-none link c.loop-draft.line c.loop-draft.starts.items
