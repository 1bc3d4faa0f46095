use Rattle.std.proofs.Common.{sym, ◌∙◌}
use Rattle.dim_text.specs.Cuts.{words_of}
use Rattle.dim_trace.proofs.Spelling.{spelled_by, stack_kept}
use Rattle.dim_trace.proofs.reader.spelled_entry.Goals as goal

pub returns-clause-value : goal.returns-clause-value
returns-clause-value c =
    spelled_by c.args.program.now c.args.names.now c.law.ensures c.len-names.ensures.table c.in_ok-next_part.field-0.now c.next_part.new.self (words_of c.args.line.now) c.in_ok-keyword.keyword c.entry.result c.ok.result
    (sym c.words-words.ensures ∙ c.in_ok-next_part.ensures) (sym c.keyword_of.ensures ∙ c.in_ok-keyword.was) c.entry.ensures.value c.ok.ensures.value

pub returns-clause-stack : goal.returns-clause-stack
returns-clause-stack c = stack_kept c.entry.result c.ok.result c.entry.ensures.stack c.ok.ensures.value
