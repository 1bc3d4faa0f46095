use Rattle.std.proofs.Common.{◌+◌, map, sym, subst}
use Rattle.dim_orders.specs.Placing.{ArePlaced}
use Rattle.dim_orders.proofs.LineLemmas.{begun, freed_more}
use Rattle.dim_orders.proofs.lines.Lines.join.Goals as goal

pub returns-in_ok-add-clause-placed : goal.returns-in_ok-add-clause-placed
returns-in_ok-add-clause-placed c = λ events at lasts are.
    let old = c.args.self.now in
    let mid = c.begin.new.self in
    let e = c.in_ok-begin.ensures in
    let b = subst (λ f. ArePlaced events (c.args.i + 1) (map (λ v. v.items) mid.lines.items) mid.line_of.items (map (λ v. v.items) f.items)) (sym e.free)
    (begun events (c.args.i + 1) (map (λ v. v.items) old.lines.items) (map (λ v. v.items) mid.lines.items) old.line_of.items mid.line_of.items (map (λ v. v.items) old.free.items) c.args.thread e.lines e.placed are) in
    freed_more events c.args.i (map (λ v. v.items) mid.lines.items) mid.line_of.items (map (λ v. v.items) mid.free.items) (map (λ v. v.items) c.add.new.rows.items) c.args.lasts.now c.args.by c.args.thread at lasts c.if-lasts-thread.true c.in_ok-add.ensures.added b

pub returns-else-lasts-thread-clause-placed : goal.returns-else-lasts-thread-clause-placed
returns-else-lasts-thread-clause-placed c = λ events at lasts are.
    let old = c.args.self.now in
    let mid = c.begin.new.self in
    let e = c.in_ok-begin.ensures in
    subst (λ f. ArePlaced events (c.args.i + 1) (map (λ v. v.items) mid.lines.items) mid.line_of.items (map (λ v. v.items) f.items)) (sym e.free)
    (begun events (c.args.i + 1) (map (λ v. v.items) old.lines.items) (map (λ v. v.items) mid.lines.items) old.line_of.items mid.line_of.items (map (λ v. v.items) old.free.items) c.args.thread e.lines e.placed are)
