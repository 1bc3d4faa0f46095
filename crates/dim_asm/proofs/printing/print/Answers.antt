use Rattle.std.proofs.Common.{◌≡◌, ap, ◌∙◌, rules}
use Rattle.dim_asm.specs.Assembling.{program_of}
use Rattle.dim_asm.specs.Printing.{program_text}
use Rattle.dim_asm.proofs.Texts.{text_again}
use Rattle.dim_asm.proofs.printing.print.Goals as goal

pub returns-clause-again : goal.returns-clause-again
returns-clause-again c =
    let text : c.from_vec.result ≡ program_text c.args.program.now = search rules in
    ap program_of text ∙ text_again c.args.program.now c.in_ok-text.ensures.printable
