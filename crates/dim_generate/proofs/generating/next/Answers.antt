use Rattle.dim_generate.proofs.Drawing.{word_is, left_is}
use Rattle.dim_generate.proofs.generating.next.Goals as goal

pub returns-clause-word : goal.returns-clause-word
returns-clause-word c = word_is c.args.words.now c.next_word.result c.next_word.new.self c.next_word.ensures

pub returns-clause-left : goal.returns-clause-left
returns-clause-left c = left_is c.args.words.now c.next_word.result c.next_word.new.self c.next_word.ensures
