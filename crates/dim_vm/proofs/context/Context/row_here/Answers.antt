use Rattle.std.proofs.Common.{subst, ◌<◌}
use Rattle.dim_vm.specs.declared.frames.CallFrame.{CallFrame}
use Rattle.dim_vm.proofs.Known.{row_finds}
use Rattle.dim_vm.proofs.context.Context.row_here.Goals as goal

pub returns-in-Some-clause-found : goal.returns-in-Some-clause-found
returns-in-Some-clause-found c =
    row_finds c.args.program.now c.args.holds.now c.args.self.now c.in-Some.op c.row.result _ c.in-Some.ensures.locks (subst (λ (f : CallFrame). f.at < 65536) c.top-frame.ensures c.in-Some.ensures.at) c.in-Some.ensures.fine c.row.ensures
