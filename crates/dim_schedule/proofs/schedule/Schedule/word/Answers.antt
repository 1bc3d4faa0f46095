use Rattle.std.proofs.Common.{sym, ap, ◌∙◌}
use Rattle.std.specs.Prelude.{Some}
use Rattle.std.specs.Option.{option_map}
use Rattle.dim_schedule.specs.Drawn.{word, later}
use Rattle.dim_schedule.proofs.Taken.{word_is, left_is}
use Rattle.dim_schedule.proofs.schedule.Schedule.word.Goals as goal

pub returns-in-Some-clause-word : goal.returns-in-Some-clause-word
returns-in-Some-clause-word c = ap Some (word_is c.in-Some.words c.next_word.result c.next_word.new.self c.next_word.ensures) ∙ ap (option_map word) (sym c.in-Some.is)

pub returns-in-Some-clause-left : goal.returns-in-Some-clause-left
returns-in-Some-clause-left c = ap Some (left_is c.in-Some.words c.next_word.result c.next_word.new.self c.next_word.ensures) ∙ ap (later 1) (sym c.in-Some.is)
