use Rattle.std.proofs.Common.{ℕ, List, sym, subst}
use Rattle.dim_rag.specs.Born.{In}
use Rattle.dim_tune.specs.Innermost.{GainsNumber}
use Rattle.dim_tune.proofs.Filing.{gains_push, in_push}
use Rattle.dim_tune.proofs.innermost.add.Goals as goal

pub returns-in_ok-push-clause-gains : goal.returns-in_ok-push-clause-gains
returns-in_ok-push-clause-gains c =
    let old = c.args.numbers.now.items in
    subst (λ (x : List ℕ). GainsNumber old x c.args.i) (sym c.in_ok-push.ensures.items) (gains_push old c.args.i)

pub returns-in_ok-push-clause-own : goal.returns-in_ok-push-clause-own
returns-in_ok-push-clause-own c =
    subst (λ (x : List ℕ). In c.args.i x) (sym c.in_ok-push.ensures.items) (in_push c.args.numbers.now.items c.args.i)
