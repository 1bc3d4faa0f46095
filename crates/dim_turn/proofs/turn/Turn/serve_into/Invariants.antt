use Rattle.dim_turn.proofs.Serving.{behind}
use Rattle.dim_turn.proofs.turn.Turn.serve_into.Given as goal

abbrev pub ghosts-mark : goal.ghosts-mark
ghosts-mark g a = record { entries = behind g.B.Book a.seat.now.me }
