use Rattle.std.proofs.Common.{◌≡◌, length, rules}
use Rattle.std.specs.List.{insert}
use Rattle.dim_signature.proofs.Placed.{order-insert}
use Rattle.dim_signature.proofs.order.append.Goals as goal

pub returns-clause-ordered : goal.returns-clause-ordered
returns-clause-ordered c =
    let e : c.insert.new.self.items ≡ insert c.args.order.now.items c.args.place (length c.args.list.now.items) = search rules in
    rw (c.push_reserved.ensures.items, e) (order-insert c.args.list.now.items c.args.order.now.items c.requires.ordered c.args.sig c.args.place c.requires.place)
