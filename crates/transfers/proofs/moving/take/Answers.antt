use Rattle.std.proofs.Common.{◌∙◌}
use Rattle.transfers.proofs.Numbers.{number_kept}
use Rattle.transfers.proofs.moving.take.Goals.{in-Ok, in-Err}
use Rattle.transfers.proofs.moving.take.Goals as goal

pub returns : goal.returns
returns g c =
    let n = number_kept c.lock-first.result _ _ _ _ c.lock-first.ensures.taken c.lock-first.ensures.refused in
    elim c.match-first.branch [
      | in-Ok w ↦ rw w.caller-is record { caller = w.move_on-came.ensures.caller; number = w.move_on-came.ensures.number ∙ n }
      | in-Err w ↦ rw w.caller-is record { caller = w.start-came.ensures.caller; number = w.start-came.ensures.number ∙ n }
    ]
