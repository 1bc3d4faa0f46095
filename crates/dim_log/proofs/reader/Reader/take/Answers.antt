use Rattle.std.proofs.Common.{arith, refl}
use Rattle.dim_log.specs.declared.reader.Reader.{Reader}
use Rattle.dim_log.proofs.Taking.{fewer_room, few_words, reading_more, room_left, step_ok}
use Rattle.dim_log.proofs.reader.Reader.take.Goals as goal

pub take_line-requires-clause-room : goal.take_line-requires-clause-room
take_line-requires-clause-room c =
    fewer_room c.args.self.now _ _ (omega (arith, c.in_ok-line.ensures.few, few_words c.args.text.now)) c.requires.room

pub returns-clause-value : goal.returns-clause-value
returns-clause-value c =
    step_ok c.args.self.now c.take_line.new.self c.in_ok-line.line c.in_ok-event.event c.push.new.self.items c.args.text.now c.in_ok-line.ensures.value c.requires.reading c.in_ok-event.ensures.taken c.in_ok-push.ensures.items

pub returns-clause-reading : goal.returns-clause-reading
returns-clause-reading c =
    let mid = c.take_line.new.self in
    let new : Reader = record mid { events = c.push.new.self } in
    reading_more c.args.self.now mid new c.in_ok-line.line c.in_ok-event.event c.requires.reading c.in_ok-event.ensures.taken c.in_ok-push.ensures.items refl refl

pub returns-clause-room : goal.returns-clause-room
returns-clause-room c =
    let mid = c.take_line.new.self in
    let new : Reader = record mid { events = c.push.new.self } in
    room_left c.args.self.now mid new c.in_ok-line.line c.in_ok-event.event c.args.text.now c.in_ok-event.ensures.taken (omega (arith, c.in_ok-line.ensures.few, few_words c.args.text.now)) refl refl
