use Rattle.dim_stack.proofs.TableLemmas.{ascending-table_of, has-table_of, has_same_names, only_table, same_names_has}
use Rattle.dim_stack.specs.Names.{table_of}
use Rattle.dim_stack.proofs.name_laws.table_law.Goals as goal

pub returns-clause-ascending : goal.returns-clause-ascending
returns-clause-ascending c = ascending-table_of

pub returns-clause-same : goal.returns-clause-same
returns-clause-same c = λ names. has_same_names (table_of names) names (λ q. has-table_of q names)

pub returns-clause-only : goal.returns-clause-only
returns-clause-only c = λ names table up same. only_table names table up (same_names_has table names same)
