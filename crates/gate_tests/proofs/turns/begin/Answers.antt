use Rattle.std.proofs.Common.{◌∙◌}
use Rattle.dim_turn.proofs.Exports.{two_popped}
use Rattle.gate_tests.proofs.turns.begin.Goals as goal

pub returns-clause-first : goal.returns-clause-first
returns-clause-first g c = let s = c.in-Ok.ensures.ok in
    let t = two_popped c.in-Ok.started.1.items c.pop.new.self.items c.pop-2.new.self.items c.pop.result c.pop-2.result c.unwrap-second.result c.unwrap-first.result s.each c.pop.ensures.items c.unwrap-second.ensures c.pop-2.ensures.items c.unwrap-first.ensures in
    let d = s.dealt 0 c.unwrap-first.result t.1 in (d.of, d.number, d.left ∙ s.allowance_is)

pub returns-clause-second : goal.returns-clause-second
returns-clause-second g c = let s = c.in-Ok.ensures.ok in
    let t = two_popped c.in-Ok.started.1.items c.pop.new.self.items c.pop-2.new.self.items c.pop.result c.pop-2.result c.unwrap-second.result c.unwrap-first.result s.each c.pop.ensures.items c.unwrap-second.ensures c.pop-2.ensures.items c.unwrap-first.ensures in
    let d = s.dealt 1 c.unwrap-second.result t.2 in (d.of, d.number, d.left ∙ s.allowance_is)
