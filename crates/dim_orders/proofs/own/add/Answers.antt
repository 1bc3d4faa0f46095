use Rattle.dim_orders.proofs.RowLemmas.{row-added_read, rows-added_read}
use Rattle.dim_orders.proofs.own.add.Goals as goal

pub returns-clause-added : goal.returns-clause-added
returns-clause-added g c = λ t.
    row-added_read c.args.rows.now.items c.args.number t c.push.new.self c.index_mut.result.now c.args.item c.requires
    c.in_ok-push.ensures.items c.index_mut.ensures.value

pub returns-clause-set : goal.returns-clause-set
returns-clause-set g c =
    rows-added_read c.args.rows.now.items c.args.number c.push.new.self c.index_mut.result.now c.args.item c.requires
    c.in_ok-push.ensures.items c.index_mut.ensures.value
