use Rattle.std.proofs.Common.{◌-◌, length, sym, subst}
use Rattle.std.proofs.lemmas.Bool.Decides.{Decides-eqb}
use Rattle.dim_rag.specs.Born.{In}
use Rattle.dim_tune.proofs.Lists.{in_at}
use Rattle.dim_tune.proofs.innermost.is_last.Goals as goal

pub returns-in-Some : goal.returns-in-Some
returns-in-Some c =
    let numbers = c.args.numbers.now in
    let last = c.in-Some.last.now in
    λ q. subst (λ n. In n numbers) ((Decides-eqb last c.args.i).0 q) (in_at numbers (length numbers - 1) last (sym c.in-Some.ensures.value))
