use Rattle.dim_run.proofs.living.idle.idle_passes.Goals as goal

pub returns-in-Ok-clause-each : goal.returns-in-Ok-clause-each
returns-in-Ok-clause-each c = λ i p at. let d = c.in-Ok.ensures.ok.dealt i p at in (d.of, d.number)
