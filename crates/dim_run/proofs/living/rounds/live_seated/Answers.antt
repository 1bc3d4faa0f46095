use Rattle.std.proofs.Common.{◌∙◌, ap, sym, subst, List, IfOk}
use Rattle.std.specs.Prelude.{slice_get}
use Rattle.dim_vm.specs.Configuration.{Configuration}
use Rattle.dim_run.specs.Crew.{rules_of, IsLast}
use Rattle.dim_run.specs.Living.{LivesOn}
use Rattle.dim_run.proofs.living.rounds.live_seated.Goals as goal

-- the passes that come back are those that were dealt
pub close-unasked-requires-clause-each : goal.close-unasked-requires-clause-each
close-unasked-requires-clause-each g c =
    λ i p at. c.in_ok-idle_gate.ensures.each i p (ap (λ x. slice_get x i) (sym (c.leave_seats.ensures.passes ∙ c.live_on-lived.ensures.idle ∙ c.take_seats.ensures.passes)) ∙ at)

pub returns-clause-lives : goal.returns-clause-lives
returns-clause-lives g c =
    subst (λ (ms : List Configuration). IfOk c.live_on-lived.result (λ x. LivesOn (rules_of c.args.program.now c.args.gate.loaded c.args.s.now) c.args.gate x ms (g.H.House.count c.args.house.now) (g.H.House.count c.live_on-lived.new.house))) (sym c.leave_seats.ensures.machines) c.live_on-lived.ensures.lives

pub returns-clause-last : goal.returns-clause-last
returns-clause-last g c =
    subst (λ (ms : List Configuration). IfOk c.live_on-lived.result (λ x. IsLast (rules_of c.args.program.now c.args.gate.loaded c.args.s.now) x ms)) (sym c.leave_seats.ensures.machines) c.live_on-lived.ensures.last
