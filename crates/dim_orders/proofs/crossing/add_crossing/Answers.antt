use Rattle.std.proofs.Common.{◌≡◌, true, sym, subst, ◌∙◌, List}
use Rattle.dim_orders.specs.Nestings.{Nesting, crosses, nesting, waits}
use Rattle.dim_orders.specs.Crossing.{Adds}
use Rattle.dim_orders.proofs.Keys.{adds_one, asked_crossing}
use Rattle.dim_orders.proofs.crossing.add_crossing.Goals as goal

pub returns : goal.returns
returns c =
    let held = c.args.held.now in
    let o = c.args.operation.now in
    let parts = c.args.parts.now in
    let w : waits held o ≡ true = sym c.is_wait.ensures ∙ c.if-not-is_wait.false in
    let x : crosses parts (nesting held o) ≡ true = sym c.is_crossing.ensures ∙ c.if-not-is_crossing.false in
    subst (λ (ns : List Nesting). Adds c.args.had.now.keys c.insert.new.self.keys ns c.in_ok-insert.field-0) (sym (asked_crossing parts held o w x))
    (adds_one c.args.had.now.keys c.insert.new.self.keys c.in_ok-numbers.numbers (nesting held o) c.in_ok-insert.field-0
    c.in_ok-numbers.ensures c.in_ok-insert.ensures.updates.0 c.in_ok-insert.ensures.added)
