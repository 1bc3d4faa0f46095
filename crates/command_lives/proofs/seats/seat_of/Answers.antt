use Rattle.std.proofs.Common.{ℕ, ap, ◌∙◌}
use Rattle.dim_base.specs.declared.Tid.{Tid}
use Rattle.dim_vm.specs.Configuration.{Configuration}
use Rattle.dim_run.specs.Gates.{known}
use Rattle.command_lives.proofs.DoorLemmas.{seated}
use Rattle.command_lives.proofs.seats.seat_of.Goals as goal

pub returns-clause-seated : goal.returns-clause-seated
returns-clause-seated g c =
    let tid : ℕ → Tid = λ n. record { 0 = n } in
    let thread = ap (λ (x : Configuration). x.thread) c.new-machine.ensures.value ∙ ap tid c.number.ensures in
    seated c.args.program.now _ c.args.pass.number c.new-machine.result (known c.args.pass) c.requires.empty c.requires.unasked c.requires.caller c.requires.low thread c.new-machine.ensures.fits
