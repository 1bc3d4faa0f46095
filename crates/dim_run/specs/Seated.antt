-- The machines and the passes in the seats of a live run, of which those of the last thread come
-- first.
use Rattle.std.specs.Prelude.{List, map, reverse}
use Rattle.dim_rag.specs.declared.command.Command.{Command}
use Rattle.dim_rag.specs.declared.command.Reply.{Reply}
use Rattle.dim_rag.specs.declared.entry.Entry.{Entry}
use Rattle.dim_gate.specs.contracts.book.GateStateBook.TheImpl.{ghosts}
use Rattle.dim_gate.specs.Gate.{Gate}
use Rattle.dim_turn.specs.declared.pass.Pass.{Pass}
use Rattle.dim_vm.specs.Configuration.{Configuration}
use Rattle.dim_run.specs.declared.living.seat.Seat.{Seat}

-- in the order of the threads
abbrev pub machines_in : List Seat → List Configuration
machines_in seats = map (λ s. s.machine) (reverse seats)

abbrev pub passes_in : List Seat → List (Pass Gate Command Reply Entry ghosts)
passes_in seats = map (λ s. s.pass) (reverse seats)
