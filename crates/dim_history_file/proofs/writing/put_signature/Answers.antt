use Rattle.std.proofs.Common.{◌≡◌, All, Some, ◌++◌, map, take, sym, ap, ◌∙◌, subst, append_assoc}
use Rattle.std.specs.Prelude.{slice_get}
use Rattle.std.specs.String.{string_bytes}
use Rattle.std.proofs.lemmas.List.Elements.{All-push}
use Rattle.std.proofs.lemmas.Option.{slice_get-get_or}
use Rattle.dim_text.specs.Cuts.{ended}
use Rattle.dim_history_file.specs.declared.version.Version.TheVariants.{Two}
use Rattle.dim_history_file.specs.Value.{named_stack}
use Rattle.dim_history_file.specs.Signing.{line_for}
use Rattle.dim_history_file.specs.Spelling.{StackLine, spelled, open_lines, text_of}
use Rattle.dim_history_file.specs.Grammar.{IsSized}
use Rattle.dim_history_file.proofs.Sound.{take_one_more, map_one_more, lines_more}
use Rattle.dim_history_file.proofs.writing.put_signature.Goals as goal

pub loop-stack-preserved : goal.loop-stack-preserved
loop-stack-preserved c =
    let xs = c.as_slice-stack-items.result.now in
    let i = c.loop-stack.stack-index in
    let x = c.stack-item.result in
    let at : slice_get xs i ≡ Some x = slice_get-get_or xs i x c.loop-stack-test.true ∙ ap (λ y. Some y) (sym c.stack-item.is) in
    let f = named_stack c.args.names.now in
    let before = map f (take i xs) in
    let o = line_for c.args.sig.now in
    let text = string_bytes c.args.text.now in
    record {
      text =
          c.in_ok-put_stack.ensures.line
          ∙ ap (λ t. t ++ ended (spelled (StackLine (f x)))) c.loop-stack.invariant.text
          ∙ append_assoc text (text_of (open_lines Two o before)) (ended (spelled (StackLine (f x))))
          ∙ ap (λ l. text ++ l) (sym (lines_more Two o before (f x)) ∙ ap (λ ss. text_of (open_lines Two o ss)) (sym (map_one_more f xs i x at)));
      sized = subst (All IsSized) (sym (take_one_more xs i x at)) (All-push IsSized (take i xs) x c.loop-stack.invariant.sized c.in_ok-put_stack.ensures.sized);
    }
