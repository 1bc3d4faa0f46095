use Rattle.std.proofs.Common.{◌≡◌, ap, ◌∙◌, rules}
use Rattle.dim_asm.specs.Spelling.{source_text}
use Rattle.dim_schedule.specs.Drawn.{generator}
use Rattle.dim_generate.specs.Drafted.{generated_source}
use Rattle.dim_generate.proofs.GeneratedLemmas.{named_is, assembled_again}
use Rattle.dim_generate.proofs.generating.generated.Goals as goal

pub returns-clause-text : goal.returns-clause-text
returns-clause-text c =
    let text : c.from_vec.result ≡ source_text (generated_source (generator c.args.n)) = search rules in
    text ∙ ap source_text (named_is c.args.n)

pub returns-clause-program : goal.returns-clause-program
returns-clause-program c = assembled_again c.args.n

pub returns-in_err-text-clause-program : goal.returns-in_err-text-clause-program
returns-in_err-text-clause-program c = assembled_again c.args.n
