use Rattle.std.proofs.Common.{◌≡◌, ℕ, List, ap, ◌∙◌, subst}
use Rattle.dim_tune.specs.Innermost.{GainsNumber, filed, numbers_or_none}
use Rattle.dim_tune.proofs.Filing.{filed_gains, or_empty}
use Rattle.dim_tune.proofs.innermost.file.Goals as goal

pub returns-clause-gains : goal.returns-clause-gains
returns-clause-gains c =
    let old = c.args.files.now in
    let frame = c.args.frame in
    let numbers = c.unwrap_or-numbers.result in
    let v = c.add.new.numbers in
    let is : numbers.items ≡ filed old frame = or_empty c.remove.result c.new.result numbers c.new.ensures.items c.unwrap_or-numbers.ensures ∙ ap numbers_or_none c.remove.ensures.value in
    filed_gains old c.remove.new.self c.insert.new.self frame v c.remove.ensures.updates.0 c.in_ok-insert.ensures.updates.0 c.args.i
    (subst (λ (x : List ℕ). GainsNumber x v.items c.args.i) is c.in_ok-add.ensures.gains)
