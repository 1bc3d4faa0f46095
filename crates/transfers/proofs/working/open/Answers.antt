use Rattle.std.proofs.Common.{◌∙◌}
use Rattle.dim_turn.proofs.Exports.{two_popped}
use Rattle.transfers.proofs.working.open.Goals as goal

pub returns-clause-first : goal.returns-clause-first
returns-clause-first c =
    let t = two_popped c.in_ok-domain.callers.items c.pop.new.self.items c.pop-2.new.self.items c.pop.result c.pop-2.result c.unwrap-second.result c.unwrap-first.result (c.in_ok-domain.ensures.callers.all ∙ c.in_ok-domain.ensures.each) c.pop.ensures.items c.unwrap-second.ensures c.pop-2.ensures.items c.unwrap-first.ensures in
    let it = c.in_ok-domain.ensures.callers.each 0 c.unwrap-first.result t.1 in
    (it.0, c.in_ok-domain.ensures.idle 0 c.unwrap-first.result t.1, it.1)

pub returns-clause-second : goal.returns-clause-second
returns-clause-second c =
    let t = two_popped c.in_ok-domain.callers.items c.pop.new.self.items c.pop-2.new.self.items c.pop.result c.pop-2.result c.unwrap-second.result c.unwrap-first.result (c.in_ok-domain.ensures.callers.all ∙ c.in_ok-domain.ensures.each) c.pop.ensures.items c.unwrap-second.ensures c.pop-2.ensures.items c.unwrap-first.ensures in
    let it = c.in_ok-domain.ensures.callers.each 1 c.unwrap-second.result t.2 in
    (it.0, c.in_ok-domain.ensures.idle 1 c.unwrap-second.result t.2, it.1)
