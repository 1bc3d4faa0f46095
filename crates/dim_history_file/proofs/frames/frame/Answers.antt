use Rattle.std.proofs.Common.{◌≡◌, Some, None, Err, Result, arith, rules, sym, subst}
use Rattle.std.proofs.lemmas.Grind.{common_steps}
use Rattle.dim_text.specs.Cuts.{sides_of}
use Rattle.dim_text.specs.Naming.{IsName}
use Rattle.dim_text.specs.Numerals.{number_of as number_in}
use Rattle.dim_text.specs.Reading.{Gives}
use Rattle.dim_stack.specs.declared.Frame.{Frame}
use Rattle.dim_stack.specs.Names.{name_number}
use Rattle.dim_history_file.specs.declared.fault.FileKind.{FileKind}
use Rattle.dim_history_file.specs.declared.fault.FileKind.TheVariants.{Name, Number}
use Rattle.dim_history_file.specs.Value.{named_frame}
use Rattle.dim_history_file.specs.Judging.{frame_of}
use Rattle.dim_history_file.proofs.Using.{frame_no_name, frame_no_number, frame_value}
use Rattle.dim_history_file.proofs.frames.frame.Goals as goal

pub returns-in_err-func-clause-value : goal.returns-in_err-func-clause-value
returns-in_err-func-clause-value c =
    let names = c.args.names.now in
    let word = c.args.word.now in
    let name = c.in_ok-name.name.now in
    let sides : sides_of word ≡ Some (name, c.in_ok-name.offset.now) = grind (arith, common_steps) in
    let none : name_number names name ≡ None = grind (arith, common_steps) in
    let is : c.from_residual-in_err-func.result ≡ Err Name = grind (arith, common_steps) in
    subst (λ (r : Result Frame FileKind). Gives (λ x. Some x) (named_frame names) r (frame_of word)) (sym is)
    (frame_no_name names word name c.in_ok-name.offset.now c.requires sides none)

pub returns-in_err-at-clause-value : goal.returns-in_err-at-clause-value
returns-in_err-at-clause-value c =
    let names = c.args.names.now in
    let word = c.args.word.now in
    let name = c.in_ok-name.name.now in
    let offset = c.in_ok-name.offset.now in
    let sides : sides_of word ≡ Some (name, offset) = grind (arith, common_steps) in
    let named : IsName name = search rules in
    let none : number_in 65535 offset ≡ None = grind (arith, common_steps) in
    let is : c.from_residual-in_err-at.result ≡ Err Number = grind (arith, common_steps) in
    subst (λ (r : Result Frame FileKind). Gives (λ x. Some x) (named_frame names) r (frame_of word)) (sym is)
    (frame_no_number word name offset sides named none)

pub returns-clause-value : goal.returns-clause-value
returns-clause-value c =
    let names = c.args.names.now in
    let word = c.args.word.now in
    let name = c.in_ok-name.name.now in
    let offset = c.in_ok-name.offset.now in
    let sides : sides_of word ≡ Some (name, offset) = grind (arith, common_steps) in
    let named : IsName name = search rules in
    let at : number_in 65535 offset ≡ Some c.in_ok-at.at = grind (arith, common_steps) in
    let func : name_number names name ≡ Some c.in_ok-func.func = grind (arith, common_steps) in
    frame_value names word name offset c.in_ok-at.at c.in_ok-func.func sides named at func
