use Rattle.std.proofs.Common.{List, filter, subst, ◌≡◌, ◌+◌, ◌||◌, drop, get_or, sym, ◌∙◌}
use Rattle.std.proofs.lemmas.Bool.{or_right}
use Rattle.std.proofs.lemmas.List.{drop_more, drop_all}
use Rattle.dim_orders.specs.declared.hold.Hold.{Hold}
use Rattle.dim_orders.specs.Nestings.{asked, crosses}
use Rattle.dim_orders.specs.declared.kept.Deed.TheVariants as deed
use Rattle.dim_orders.specs.declared.kept.Operation.{Operation}
use Rattle.dim_orders.specs.Crossing.{Adds, crossings}
use Rattle.dim_orders.proofs.Keys.{adds_all, adds_step, or_none}
use Rattle.dim_orders.proofs.crossing.add_crossings.Goals.{then-branch, else-branch}
use Rattle.dim_orders.proofs.crossing.add_crossings.Goals as goal

pub loop-operation-preserved : goal.loop-operation-preserved
loop-operation-preserved c =
    let section = c.args.section.now in
    let i = c.loop-operation.operation-index in
    let o : Operation = get_or section i (record { deed = deed.Lock; lock = 0; stack = 0 }) in
    let inv = c.loop-operation.invariant in
    let p = c.loop-operation.new in
    let q = c.in_ok-add_crossing.field-0 in
    let is : (p || q) ≡ c.if-branch.new = elim c.if-branch.branch [
      | then-branch w ↦ or_right p q w.if-branch.true ∙ sym w.new-is
      | else-branch w ↦ or_none p q w.if-branch.false ∙ sym w.new-is
    ] in
    adds_step c.args.parts.now (crossings c.args.parts.now section) c.args.had.now.keys c.loop-operation.had.keys c.add_crossing.new.had.keys
    c.loop-operation.held.items c.act.new.held.items o (drop i section) (drop (i + 1) section) inv.0 p q c.if-branch.new
    inv.1 inv.2 (drop_more section i (record { deed = deed.Lock; lock = 0; stack = 0 }) c.loop-operation-test.true)
    (subst (λ (hs : List Hold). Adds c.loop-operation.had.keys c.add_crossing.new.had.keys (filter (crosses c.args.parts.now) (asked hs o)) q) c.deref.ensures.value c.in_ok-add_crossing.ensures) c.in_ok-act.ensures is

pub returns : goal.returns
returns c =
    let section = c.args.section.now in
    let i = c.loop-operation.operation-index in
    let inv = c.loop-operation.invariant in
    adds_all c.args.parts.now (crossings c.args.parts.now section) c.args.had.now.keys c.loop-operation.had.keys c.loop-operation.held.items
    (drop i section) inv.0 c.loop-operation.new inv.1 inv.2 (drop_all i section c.loop-operation-test.false)
