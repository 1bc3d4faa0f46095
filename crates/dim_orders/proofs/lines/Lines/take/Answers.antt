use Rattle.std.proofs.Common.{◌+◌, Some, length, map, sym, ap, subst, ◌∙◌}
use Rattle.std.proofs.lemmas.Result.{on_ok_weaker}
use Rattle.dim_orders.specs.Placing.{ArePlaced}
use Rattle.dim_orders.proofs.LineLemmas.{begun_event}
use Rattle.dim_orders.proofs.lines.Lines.take.Goals as goal

pub returns-in-Start-clause-placed : goal.returns-in-Start-clause-placed
returns-in-Start-clause-placed c =
    let old = c.args.self.now in
    let mid = c.begin.new.self in
    let i = c.args.i in
    let e = c.in_ok-begin.ensures in
    on_ok_weaker c.start.result (λ f events at lasts are.
    f events i (at ∙ ap Some c.in-Start.is)
    (subst (λ g. ArePlaced events (i + 1) (map (λ v. v.items) mid.lines.items) mid.line_of.items (map (λ v. v.items) g.items)) (sym e.free)
    (begun_event events i (map (λ v. v.items) old.lines.items) (map (λ v. v.items) mid.lines.items) old.line_of.items mid.line_of.items (map (λ v. v.items) old.free.items) c.thread_of.result c.args.event.now e.lines e.placed c.thread_of.ensures at are)))
    c.start.ensures.placed

pub returns-in-Join-clause-placed : goal.returns-in-Join-clause-placed
returns-in-Join-clause-placed c =
    let old = c.args.self.now in
    let mid = c.begin.new.self in
    let i = c.args.i in
    let e = c.in_ok-begin.ensures in
    on_ok_weaker c.join.result (λ f events at lasts are.
    f events (at ∙ ap Some c.in-Join.is) lasts
    (subst (λ g. ArePlaced events (i + 1) (map (λ v. v.items) mid.lines.items) mid.line_of.items (map (λ v. v.items) g.items)) (sym e.free)
    (begun_event events i (map (λ v. v.items) old.lines.items) (map (λ v. v.items) mid.lines.items) old.line_of.items mid.line_of.items (map (λ v. v.items) old.free.items) c.thread_of.result c.args.event.now e.lines e.placed c.thread_of.ensures at are)))
    c.join.ensures.placed

pub returns-in_default : goal.returns-in_default
returns-in_default c =
    let old = c.args.self.now in
    let mid = c.begin.new.self in
    let i = c.args.i in
    let e = c.in_ok-begin.ensures in
    record {
      len = e.len;
      free = ap (λ f. length f.items) e.free;
      placed = λ events at lasts are.
          subst (λ g. ArePlaced events (i + 1) (map (λ v. v.items) mid.lines.items) mid.line_of.items (map (λ v. v.items) g.items)) (sym e.free)
          (begun_event events i (map (λ v. v.items) old.lines.items) (map (λ v. v.items) mid.lines.items) old.line_of.items mid.line_of.items (map (λ v. v.items) old.free.items) c.thread_of.result c.args.event.now e.lines e.placed c.thread_of.ensures at are);
    }
