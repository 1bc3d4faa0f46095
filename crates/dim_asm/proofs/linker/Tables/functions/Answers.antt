use Rattle.std.proofs.Common.{◌≡◌, ◌+◌, ◌∷◌, [], ◌++◌, Ok, length, drop, arith, sym, ap, ◌∙◌, subst}
use Rattle.std.specs.Prelude.{Vec}
use Rattle.std.specs.declared.alloc.Global.{Global}
use Rattle.std.proofs.lemmas.List.{drop_more, drop_all}
use Rattle.std.proofs.lemmas.Result.{err_from_is_err_and}
use Rattle.dim_text.specs.Reading.{Fails}
use Rattle.dim_asm.specs.declared.program.Function as code
use Rattle.dim_asm.specs.Faults.{fault_of}
use Rattle.dim_asm.specs.Source.{draft_count}
use Rattle.dim_asm.specs.Linking.{link_function, link_functions}
use Rattle.dim_asm.specs.Tables.{seen}
use Rattle.dim_asm.proofs.LinkLemmas.{behind, functions-step, functions-fails, functions-none, exits}
use Rattle.dim_asm.proofs.SourceLemmas.{draft_count-cons}
use Rattle.dim_asm.proofs.linker.Tables.functions.Goals as goal

pub returns-in_err-func : goal.returns-in_err-func
returns-in_err-func c =
    let p = err_from_is_err_and c.from_residual.result c.from_residual.ensures.1 in
    let i = c.loop-draft.draft-index in
    let xs = c.args.drafts.now in
    let t = seen c.args.self.now in
    let line = c.loop-draft.line in
    let here = c.draft-item.result in
    let rest = drop (i + 1) xs in
    let done = c.loop-draft.funcs.items in
    let fault = fault_of c.in_err-func.field-0.0 in
    let split : drop i xs ≡ here ∷ rest = drop_more xs i here c.loop-draft-test.true ∙ ap (λ x. x ∷ rest) (sym c.draft-item.is) in
    let failed : Fails fault (link_function t line here) = c.in_err-func.ensures in
    let all = functions-fails t line here rest done fault failed in
    let whole = ap (λ ds. behind done (link_functions t line ds)) (sym split) ∙ c.loop-draft.invariant.same in
    exits fault_of (λ (funcs : Vec code.Function Global). funcs.items) c.from_residual.result p.0 c.in_err-func.field-0.0 _ p.1 p.2 (subst (Fails fault) whole all)

pub loop-draft-preserved : goal.loop-draft-preserved
loop-draft-preserved c =
    let i = c.loop-draft.draft-index in
    let xs = c.args.drafts.now in
    let t = seen c.args.self.now in
    let line = c.loop-draft.line in
    let here = c.draft-item.result in
    let rest = drop (i + 1) xs in
    let done = c.loop-draft.funcs.items in
    let split : drop i xs ≡ here ∷ rest = drop_more xs i here c.loop-draft-test.true ∙ ap (λ x. x ∷ rest) (sym c.draft-item.is) in
    let linked : link_function t line here ≡ Ok c.in_ok-func.func = c.in_ok-func.ensures in
    let next : line + (c.len.result + 2) ≡ line + length here.drafts + 2 = omega (arith, c.len.ensures) in
    record {
      line = omega (arith, next, c.loop-draft.invariant.line, ap draft_count split, draft_count-cons here rest, c.loop-draft-test.true);
      same =
          ap (λ funcs. behind funcs (link_functions t (line + (c.len.result + 2)) rest)) c.in_ok-push.ensures.items
          ∙ ap (λ n. behind (done ++ c.in_ok-func.func ∷ []) (link_functions t n rest)) next
          ∙ sym (functions-step t line here rest c.in_ok-func.func done linked)
          ∙ ap (λ ds. behind done (link_functions t line ds)) (sym split)
          ∙ c.loop-draft.invariant.same;
    }

pub returns : goal.returns
returns c =
    let i = c.loop-draft.draft-index in
    let t = seen c.args.self.now in
    let line = c.loop-draft.line in
    let done = c.loop-draft.funcs.items in
    sym c.loop-draft.invariant.same
    ∙ ap (λ ds. behind done (link_functions t line ds)) (drop_all i c.args.drafts.now c.loop-draft-test.false)
    ∙ functions-none t line done
