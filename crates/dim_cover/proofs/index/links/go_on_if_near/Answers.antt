use Rattle.std.proofs.Common.{◌≡◌, sym, ◌∙◌, arith}
use Rattle.dim_cover.proofs.Fronts.{on_nothing}
use Rattle.dim_cover.proofs.index.links.go_on_if_near.Goals as goal

pub returns-else-near-gt0-clause-turned : goal.returns-else-near-gt0-clause-turned
returns-else-near-gt0-clause-turned c =
    let none : c.args.near ≡ 0 = omega (arith, c.if-near-gt0.false) in
    on_nothing c.args.edges.now c.args.stack.now c.args.next c.args.slots.now c.args.links.now.items (sym c.requires.near ∙ none)
