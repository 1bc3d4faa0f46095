use Rattle.std.proofs.Common.{arith}
use Rattle.dim_gate.specs.Gate.{constants}
use Rattle.turn_bench.proofs.desk.Desk.ask.Goals as goal

pub act-requires-clause-allowed : goal.act-requires-clause-allowed
act-requires-clause-allowed c =
    let desk = c.args.self.now in
    c.command.ensures.may (constants desk.gate) (omega (arith, c.requires, desk.threads)) (omega (arith, c.requires, desk.locks))
