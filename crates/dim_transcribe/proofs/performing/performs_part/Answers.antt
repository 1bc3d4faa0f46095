use Rattle.std.proofs.Common.{◌≡◌, List, ap, subst, ◌∙◌}
use Rattle.dim_base.specs.declared.Tid.{Tid}
use Rattle.dim_orders.specs.declared.kept.Chain.{Chain}
use Rattle.dim_orders.specs.declared.kept.Operation.{Operation}
use Rattle.dim_transcribe.specs.Performs.{PerformsChain}
use Rattle.dim_transcribe.proofs.performing.performs_part.Goals as goal

pub returns : goal.returns
returns c = λ e chain there.
    let t : Tid = record { 0 = c.args.k } in
    let same : c.in-Some.chain.now ≡ chain = cc (c.in-Some.ensures, there) in
    subst (λ (os : List Operation). PerformsChain c.args.program.now c.args.key.now c.args.log.now t os)
    (c.deref.ensures.value ∙ ap (λ (x : Chain). x.operations.items) same) (c.performs_chain.ensures e)
