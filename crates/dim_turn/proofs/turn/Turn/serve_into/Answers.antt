use Rattle.std.proofs.Common.{refl, ◌≡◌, ◌∷◌, ◌∙◌, sym, ap, List, length, ℕ, Option, Some}
use Rattle.atomic_table.specs.Table.{rest}
use Rattle.dim_turn.proofs.Serving.{taken, written, acted, acted_enters, acted_more, marked_is, acted_answers}
use Rattle.dim_turn.proofs.turn.Turn.serve_into.Goals as goal

pub slot_mut-requires : goal.slot_mut-requires
slot_mut-requires g c = let h = c.requires.may.holding in
    (c.requires.seat, (Some h.book, h.own ∙ ap (λ (l : List (ℕ × Option g.row.B.Denot)). (0, Some h.book) ∷ l) (sym (ap rest h.own))))

pub mark-requires-clause-entries : goal.mark-requires-clause-entries
mark-requires-clause-entries g c = let h = c.requires.may.holding in let e = c.act_into.ensures in let z = c.args.self.now.table.shared.key in let me = c.args.seat.now.me in
    let is : c.in-Some.book ≡ h.book = taken me.1 h.book c.in-Some.book c.slot_mut.result.now h.own c.slot_mut.ensures.value c.in-Some.is in
    let a = acted g.B.Book z g.met.B.Book.names_caller g.met.B.Book.names_command me c.args.number c.args.cmd.now c.act_into.new.reply c.in-Some.book c.act_into.new.self h is c.requires.may.number c.requires.may.few c.requires.may.allowed e.reply e.history e.constants e.spare in
    acted_more g.B.Book z me c.args.number c.args.cmd.now c.act_into.new.reply c.act_into.new.self a _ (written me _ h.book c.act_into.new.self h.own refl) _ _ (c.len-before.ensures ∙ ap (λ b. length (g.B.Book.history b)) is ∙ sym (ap length h.found)) c.len.ensures

pub mark-requires-clause-entered : goal.mark-requires-clause-entered
mark-requires-clause-entered g c = let h = c.requires.may.holding in let e = c.act_into.ensures in let z = c.args.self.now.table.shared.key in let me = c.args.seat.now.me in
    let is : c.in-Some.book ≡ h.book = taken me.1 h.book c.in-Some.book c.slot_mut.result.now h.own c.slot_mut.ensures.value c.in-Some.is in
    let a = acted g.B.Book z g.met.B.Book.names_caller g.met.B.Book.names_command me c.args.number c.args.cmd.now c.act_into.new.reply c.in-Some.book c.act_into.new.self h is c.requires.may.number c.requires.may.few c.requires.may.allowed e.reply e.history e.constants e.spare in
    acted_enters g.B.Book z me c.args.number c.args.cmd.now c.act_into.new.reply c.act_into.new.self a _ (written me _ h.book c.act_into.new.self h.own refl)

pub hand_on-requires-clause-answered : goal.hand_on-requires-clause-answered
hand_on-requires-clause-answered g c = let h = c.requires.may.holding in let e = c.act_into.ensures in let z = c.args.self.now.table.shared.key in let me = c.args.seat.now.me in
    let is : c.in-Some.book ≡ h.book = taken me.1 h.book c.in-Some.book c.slot_mut.result.now h.own c.slot_mut.ensures.value c.in-Some.is in
    let a = acted g.B.Book z g.met.B.Book.names_caller g.met.B.Book.names_command me c.args.number c.args.cmd.now c.act_into.new.reply c.in-Some.book c.act_into.new.self h is c.requires.may.number c.requires.may.few c.requires.may.allowed e.reply e.history e.constants e.spare in
    acted_answers g.B.Book z me c.args.number c.args.cmd.now c.act_into.new.reply c.act_into.new.self a c.mark.new.seat.me
    (marked_is g.B.Book z me c.args.number c.args.cmd.now c.act_into.new.reply c.act_into.new.self a _ c.mark.new.seat.me (written me _ h.book c.act_into.new.self h.own refl) c.mark.ensures.marked)
