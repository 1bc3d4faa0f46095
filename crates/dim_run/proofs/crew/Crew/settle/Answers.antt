use Rattle.std.proofs.Common.{◌≡◌, sym, length, arith}
use Rattle.dim_rag.specs.History.{past}
use Rattle.dim_rag.specs.Tables.{Replay}
use Rattle.dim_gate.specs.Gate.{Gate, constants}
use Rattle.dim_run.proofs.Rested.{rests, rests_settled, still_rests, still_taken, still_twin}
use Rattle.dim_run.proofs.crew.Crew.settle.Goals as goal

pub returns-then-entered-taken-clause-history : goal.returns-then-entered-taken-clause-history
returns-then-entered-taken-clause-history c =
    let g : Gate = c.args.self.now.door.gate in
    let m : Replay = c.args.self.now.monitor in
    let long : length g.entries ≡ length m.entries = omega (arith, c.entered.ensures.value, c.taken.ensures, c.if-entered-taken.true) in
    sym (rests (constants g) (past g.entries) (still_rests g m c.requires.behind long c.requires.rested))

pub returns-then-entered-taken-clause-twin : goal.returns-then-entered-taken-clause-twin
returns-then-entered-taken-clause-twin c =
    still_twin c.args.self.now.door.gate c.args.self.now.monitor c.requires.behind (omega (arith, c.entered.ensures.value, c.taken.ensures, c.if-entered-taken.true))

pub returns-then-entered-taken-clause-taken : goal.returns-then-entered-taken-clause-taken
returns-then-entered-taken-clause-taken c =
    still_taken c.args.self.now.door.gate c.args.self.now.monitor c.args.self.now.notes c.requires.behind (omega (arith, c.entered.ensures.value, c.taken.ensures, c.if-entered-taken.true)) c.requires.taken

pub returns-then-entered-taken-clause-rested : goal.returns-then-entered-taken-clause-rested
returns-then-entered-taken-clause-rested c =
    still_rests c.args.self.now.door.gate c.args.self.now.monitor c.requires.behind (omega (arith, c.entered.ensures.value, c.taken.ensures, c.if-entered-taken.true)) c.requires.rested

pub returns-clause-rested : goal.returns-clause-rested
returns-clause-rested c =
    rests_settled c.args.self.now.door.gate c.settle.new.self.gate c.settled_law.ensures c.settle.ensures.legal c.entered.ensures.few c.requires.cap c.settle.ensures.constants c.settle.ensures.history
