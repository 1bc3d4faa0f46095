use Rattle.std.proofs.Common.{ap, sym, ◌∙◌}
use Rattle.std.proofs.lemmas.Option.{same_Some, slice_get-map}
use Rattle.std.specs.Prelude.{option_map}
use Rattle.dim_rag.specs.Yielded.{is_learn}
use Rattle.dim_why.proofs.Learning.{tells_many}
use Rattle.dim_why.proofs.text.learnt_count.Goals as goal

pub returns-then-is_learn-clause-value : goal.returns-then-is_learn-clause-value
returns-then-is_learn-clause-value c = λ e here.
    sym (tells_many e _ (same_Some (is_learn e) c.is_learn.result (ap (option_map is_learn) (sym here) ∙ sym (slice_get-map is_learn c.args.trace.now.entries c.args.place) ∙ c.is_learn.ensures) ∙ c.if-is_learn.true))

pub returns-else-is_learn-clause-value : goal.returns-else-is_learn-clause-value
returns-else-is_learn-clause-value c = λ e here.
    sym (tells_many e _ (same_Some (is_learn e) c.is_learn.result (ap (option_map is_learn) (sym here) ∙ sym (slice_get-map is_learn c.args.trace.now.entries c.args.place) ∙ c.is_learn.ensures) ∙ c.if-is_learn.false))
