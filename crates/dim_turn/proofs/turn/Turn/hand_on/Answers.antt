use Rattle.std.proofs.Common.{rules}
use Rattle.dim_turn.proofs.Steps.{hands}
use Rattle.dim_turn.proofs.turn.Turn.hand_on.Goals as goal

pub fetch_add-requires : goal.fetch_add-requires
fetch_add-requires g c = let a = c.requires.answered in (search rules, search rules, hands g.B.Book c.args.self.now.table.shared.key _ _ c.args.seat.now.me a.ticket a.book a.answered a.own a.is_book)
