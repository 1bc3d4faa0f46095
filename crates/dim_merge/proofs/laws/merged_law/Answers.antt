use Rattle.dim_merge.proofs.Merged.{again, first_there, history, itself, known, none, once, second_there}
use Rattle.dim_merge.proofs.laws.merged_law.Goals as goal

pub returns-clause-known : goal.returns-clause-known
returns-clause-known c = known

pub returns-clause-once : goal.returns-clause-once
returns-clause-once c = once

pub returns-clause-first : goal.returns-clause-first
returns-clause-first c = first_there

pub returns-clause-second : goal.returns-clause-second
returns-clause-second c = second_there

pub returns-clause-none : goal.returns-clause-none
returns-clause-none c = none

pub returns-clause-itself : goal.returns-clause-itself
returns-clause-itself c = itself

pub returns-clause-history : goal.returns-clause-history
returns-clause-history c = history

pub returns-clause-again : goal.returns-clause-again
returns-clause-again c = again
