use Rattle.std.proofs.Common.{rules}
use Rattle.dim_turn.proofs.Serving.{holds}
use Rattle.dim_turn.proofs.turn.Turn.call_into.Goals as goal

pub serve_into-requires-clause-may : goal.serve_into-requires-clause-may
serve_into-requires-clause-may g c = record {
  holding = holds g.B.Book c.args.self.now.table.shared.key c.draw-ticket.result c.args.pass.now.seat.me c.draw-ticket.new.seat.me c.wait.new.seat.me c.draw-ticket.ensures.drew c.args.pass.now.bare c.requires.pass.1 c.wait.ensures.opens;
  number = search rules;
  some = c.requires.left;
  allowed = c.requires.allowed;
  few = search rules;
}
