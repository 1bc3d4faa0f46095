use Rattle.std.proofs.Common.{◌++◌, ◌∷◌, [], sym, ap, ap₂, ◌∙◌, append_assoc, take}
use Rattle.std.specs.String.{string_bytes}
use Rattle.std.specs.Fmt.{decimal}
use Rattle.std.proofs.lemmas.Option.{get_or_from_slice_get}
use Rattle.dim_history_file.specs.Value.{named_stack}
use Rattle.dim_history_file.specs.Spelling.{StackLine, spelled}
use Rattle.dim_history_file.proofs.Sound.{frames_more}
use Rattle.dim_history_file.proofs.writing.put_stack.Goals as goal

pub loop-i-preserved : goal.loop-i-preserved
loop-i-preserved c =
    let names = c.args.names.now in
    let stack = c.args.stack.now in
    let i = c.loop-i.i in
    let f = c.frame-frame.result in
    let name = c.as_str-name.ensures ∙ sym (get_or_from_slice_get names f.func c.name.result.now [] c.name.ensures.name) in
    c.in_ok-write.ensures.bytes
    ∙ ap₂ (λ t frame. t ++ frame) c.loop-i.invariant (ap₂ (λ g n. g ++ (n ++ 58 ∷ decimal f.at)) c.gap-gap.ensures name)
    ∙ append_assoc (string_bytes c.args.text.now) (spelled (StackLine (named_stack names (take i stack)))) _
    ∙ ap (λ l. string_bytes c.args.text.now ++ l) (sym (frames_more names stack i f c.frame-frame.ensures))
