use Rattle.std.proofs.Common.{◌≡◌, ap, ◌∙◌, rules}
use Rattle.dim_history_file.specs.Judging.{history_of}
use Rattle.dim_history_file.specs.Spelling.{history_text}
use Rattle.dim_history_file.specs.Seen.{value_of}
use Rattle.dim_history_file.proofs.Spelled.{read_again}
use Rattle.dim_history_file.proofs.writing.write.Goals as goal

pub returns-clause-again : goal.returns-clause-again
returns-clause-again c near =
    let text : c.from_vec.result ≡ history_text (value_of c.args.h.now) = search rules in
    ap history_of text ∙ read_again (value_of c.args.h.now) (c.law.ensures.history c.in_ok-text.ensures.sized near)
