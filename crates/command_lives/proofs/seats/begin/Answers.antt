use Rattle.std.proofs.Common.{ap, ◌∙◌}
use Rattle.dim_turn.proofs.Exports.{two_popped}
use Rattle.command_lives.proofs.DoorLemmas.{unasked}
use Rattle.command_lives.proofs.seats.begin.Goals as goal

pub returns-clause-first : goal.returns-clause-first
returns-clause-first g c =
    let s = c.in-Ok.ensures in
    let t = two_popped c.in-Ok.started.1.items c.pop.new.self.items c.pop-2.new.self.items c.pop.result c.pop-2.result c.unwrap-second.result c.unwrap-first.result s.each c.pop.ensures.items c.unwrap-second.ensures c.pop-2.ensures.items c.unwrap-first.ensures in
    let d = s.passes 0 c.unwrap-first.result t.1 in
    (d.0, d.1 ∙ ap (unasked 0) c.in_ok-gate.ensures.empty)

pub returns-clause-second : goal.returns-clause-second
returns-clause-second g c =
    let s = c.in-Ok.ensures in
    let t = two_popped c.in-Ok.started.1.items c.pop.new.self.items c.pop-2.new.self.items c.pop.result c.pop-2.result c.unwrap-second.result c.unwrap-first.result s.each c.pop.ensures.items c.unwrap-second.ensures c.pop-2.ensures.items c.unwrap-first.ensures in
    let d = s.passes 1 c.unwrap-second.result t.2 in
    (d.0, d.1 ∙ ap (unasked 1) c.in_ok-gate.ensures.empty)
