use Rattle.std.proofs.Common.{◌≡◌, ◌+◌}
use Rattle.dim_vm.specs.declared.state.State.TheVariants.{Running}
use Rattle.dim_vm.specs.Configuration.{rested}
use Rattle.dim_vm.proofs.machine.Machine.rest.Given as goal

abbrev pub invariant-loop : goal.invariant-loop
invariant-loop l = record {
  runs : l.self.state ≡ Running;
  units : l.self.units + l.counter ≡ l.initial.self.units;
  rests : rested l.program l.self ≡ rested l.program l.initial.self;
}
