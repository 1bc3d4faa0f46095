use Rattle.std.proofs.Common.{Bool, sym, ap, ◌∙◌}
use Rattle.std.specs.Prelude.{Some, None, if◌then◌else◌}
use Rattle.std.proofs.lemmas.Bool.{eq-eqb, ne_eqb}
use Rattle.rand_core.specs.Pcg32Seed.{pcg32_seed}
use Rattle.rand_pcg.specs.Pcg.{pcg32_of_seed}
use Rattle.dim_schedule.specs.Drawn.{generator}
use Rattle.dim_schedule.proofs.schedule.Schedule.new.Goals as goal
use Rattle.dim_schedule.proofs.schedule.Schedule.new.Goals.{then-seed-eq0, else-seed-eq0}

pub returns : goal.returns
unfolding generator
returns c = elim c.if-seed-eq0.branch [
  | then-seed-eq0 w ↦ w.words-is ∙ sym (ap (λ (b : Bool). if b then None else Some (generator c.args.seed)) (eq-eqb c.args.seed 0 w.if-seed-eq0.true))
  | else-seed-eq0 w ↦ w.words-is ∙ ap Some (w.seed_from_u64.ensures ∙ ap (λ n. pcg32_of_seed (pcg32_seed 16 n)) w.from.ensures) ∙ sym (ap (λ (b : Bool). if b then None else Some (generator c.args.seed)) (ne_eqb c.args.seed 0 w.if-seed-eq0.false))
]
