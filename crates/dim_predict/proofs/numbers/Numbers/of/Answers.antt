use Rattle.std.proofs.Common.{◌≡◌, ◌+◌, sym, subst, length, arith}
use Rattle.dim_predict.specs.declared.key.Key.{Key}
use Rattle.dim_predict.specs.Numbered.{IsNumbered, IsNumberedTo}
use Rattle.dim_predict.proofs.Numbering.{number_step}
use Rattle.dim_predict.proofs.numbers.Numbers.of.Goals as goal

pub loop-i-preserved : goal.loop-i-preserved
loop-i-preserved c =
    let keys = c.args.keys.now in
    let i = c.loop-i.i in
    let old = c.loop-i.firsts in
    let new = c.number_at.new.firsts in
    let n = c.in_ok-number.number in
    let numbered : IsNumbered old new c.index-keys-i.result.stack i n = subst (λ (k : Key). IsNumbered old new k.stack i n) (sym c.index-keys-i.is) c.in_ok-number.ensures in
    subst (IsNumberedTo keys (i + 1) new) (sym c.in_ok-push.ensures.items)
    (number_step keys i old new c.loop-i.list.items c.index-keys-i.result n c.loop-i-test.true c.index-keys-i.is c.loop-i.invariant numbered)

pub returns : goal.returns
returns c =
    let keys = c.args.keys.now in
    let all : c.loop-i.i ≡ length keys = (let a = c.loop-i-test.false in let b = c.loop-i.auto.i-end in omega (arith, a, b)) in
    subst (λ n. IsNumberedTo keys n c.loop-i.firsts c.loop-i.list.items) all c.loop-i.invariant
