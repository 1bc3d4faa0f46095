use Rattle.dim_orders.proofs.RowLemmas.{row-popped_read, row-set_other}
use Rattle.dim_orders.proofs.own.pop.Goals as goal

pub returns-clause-popped : goal.returns-clause-popped
returns-clause-popped g c =
    row-popped_read c.args.rows.now.items c.args.number c.pop.new.self c.index_mut.result.now c.pop.result c.requires
    c.pop.ensures.items c.index_mut.ensures.value

pub returns-clause-others : goal.returns-clause-others
returns-clause-others g c = λ t ne. row-set_other c.args.rows.now.items c.args.number t c.pop.new.self ne
