use Rattle.std.proofs.Common.{refl, ap, ◌∙◌}
use Rattle.std.specs.Prelude.{Some}
use Rattle.dim_run.specs.Door.{seen_at}
use Rattle.dim_run.specs.Gates.{known, opening_of}
use Rattle.dim_run.specs.PassDoor.{ajar}
use Rattle.dim_run.proofs.PassAsked.{pass_may, pass_replies, pass_sees, pass_stays, pass_stops, pass_wakes, pass_stays_awake, pass_reaches}
use Rattle.dim_run.proofs.living.asking.PassDoorDoor.ask_into.Goals as goal

pub ask_into-requires-clause-allowed : goal.ask_into-requires-clause-allowed
ask_into-requires-clause-allowed g c =
    let d = c.args.self.now in
    pass_may (opening_of (g.G.Gate.start d.gate.now)) (known d.pass.now) d.thread d.last d.stops record { number = d.number; thread = d.low; own = d.own; legal = d.legal; woken = d.woken } c.args.cmd.now c.requires.may

pub invariant_of-self : goal.invariant_of-self
invariant_of-self g c =
    let d = c.args.self.now in
    let k = pass_stays (opening_of (g.G.Gate.start d.gate.now)) (known d.pass.now) (known c.ask_into.new.pass) d.thread d.last d.stops record { number = d.number; thread = d.low; own = d.own; legal = d.legal; woken = d.woken }
    c.args.cmd.now c.requires.may c.ask_into.new.reply c.ask_into.ensures.asked in
    record { owned = c.ask_into.ensures.pass; number = k.number; low = k.thread; own = k.own; legal = k.legal; woken = rw c.note.ensures k.woken }

pub returns-clause-reply : goal.returns-clause-reply
returns-clause-reply g c =
    let d = c.args.self.now in
    pass_replies (opening_of (g.G.Gate.start d.gate.now)) (known d.pass.now) (known c.ask_into.new.pass) d.thread d.last d.stops record { number = d.number; thread = d.low; own = d.own; legal = d.legal; woken = d.woken }
    c.args.cmd.now c.requires.may c.ask_into.new.reply c.ask_into.ensures.asked

pub returns-clause-seen : goal.returns-clause-seen
returns-clause-seen g c =
    let d = c.args.self.now in
    ap (λ r. seen_at (ajar (opening_of (g.G.Gate.start d.gate.now)) (known c.ask_into.new.pass) d.thread r c.stops_after-self.result)) c.note.ensures
    ∙ ap (λ n. seen_at (ajar (opening_of (g.G.Gate.start d.gate.now)) (known c.ask_into.new.pass) d.thread (Some c.ask_into.new.reply) n)) c.stops_after-self.ensures
    ∙ pass_sees (opening_of (g.G.Gate.start d.gate.now)) (known d.pass.now) (known c.ask_into.new.pass) d.thread d.last d.stops record { number = d.number; thread = d.low; own = d.own; legal = d.legal; woken = d.woken }
    c.args.cmd.now c.requires.may c.ask_into.new.reply c.ask_into.ensures.asked

pub returns-clause-stopped : goal.returns-clause-stopped
returns-clause-stopped g c = λ s.
    let d = c.args.self.now in
    pass_stops (opening_of (g.G.Gate.start d.gate.now)) (known d.pass.now) (known c.ask_into.new.pass) d.thread d.last d.stops record { number = d.number; thread = d.low; own = d.own; legal = d.legal; woken = d.woken }
    c.args.cmd.now c.requires.may c.ask_into.new.reply c.ask_into.ensures.asked s

pub returns-clause-woken : goal.returns-clause-woken
returns-clause-woken g c = λ w.
    let d = c.args.self.now in
    pass_wakes (opening_of (g.G.Gate.start d.gate.now)) (known d.pass.now) (known c.ask_into.new.pass) d.thread d.last d.stops record { number = d.number; thread = d.low; own = d.own; legal = d.legal; woken = d.woken }
    c.args.cmd.now c.requires.may c.ask_into.new.reply c.ask_into.ensures.asked w

pub returns-clause-still_woken : goal.returns-clause-still_woken
returns-clause-still_woken g c = λ w was.
    let d = c.args.self.now in
    pass_stays_awake (opening_of (g.G.Gate.start d.gate.now)) (known d.pass.now) (known c.ask_into.new.pass) d.thread d.last d.stops record { number = d.number; thread = d.low; own = d.own; legal = d.legal; woken = d.woken }
    c.args.cmd.now c.requires.may c.ask_into.new.reply c.ask_into.ensures.asked w was

pub returns-clause-reaches : goal.returns-clause-reaches
returns-clause-reaches g c =
    let d = c.args.self.now in
    record {
      name = refl;
      gate = refl;
      thread = refl;
      passes = pass_reaches (opening_of (g.G.Gate.start d.gate.now)) (known d.pass.now) (known c.ask_into.new.pass) d.thread d.last d.stops record { number = d.number; thread = d.low; own = d.own; legal = d.legal; woken = d.woken }
          c.args.cmd.now c.requires.may c.ask_into.new.reply c.ask_into.ensures.asked;
    }
