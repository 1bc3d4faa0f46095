use Rattle.std.proofs.Common.{◌≡◌, suc, refl, ap, sym, ◌∙◌, List, length, arith}
use Rattle.std.proofs.lemmas.Bool.{false≢true}
use Rattle.std.proofs.lemmas.Result.{IfOk-weaker}
use Rattle.dim_tune.specs.declared.attempt.Attempt.{Attempt}
use Rattle.dim_tune.specs.Attempts.{attempt_of}
use Rattle.dim_tune.specs.Made.{AreDone, IsAgain}
use Rattle.dim_tune.proofs.MadeSteps.{at_last, done_all, done_early, followed_next, made_next, made_none, size_next}
use Rattle.dim_tune.proofs.making.make_all.Goals as goal

pub each-init : goal.each-init
each-init c =
    let m = c.args.made.now in
    let size : length m.lines.items ≡ 0 = ap (λ (x : List Attempt). length x) c.requires.none in
    record {
      made = made_none m.history.names c.args.program.now c.args.s.now m.history.catalogue.sigs m c.requires.none refl refl c.requires.near;
      followed = λ i low. absurd (omega (arith, low, size));
      few = c.requires.few;
      low = omega (arith, c.requires.some, size);
    }

pub returns-then-not-branch : goal.returns-then-not-branch
returns-then-not-branch c =
    let names = c.args.made.now.history.names in
    let read = c.args.made.now.history.catalogue.sigs in
    let p = c.args.program.now in
    let s = c.args.s.now in
    let m = c.each.made in
    let new = c.attempt.new.made in
    let rest = c.in_ok-rest.rest in
    let k = c.each.invariant.made in
    let a = c.in_ok-rest.ensures in
    let line = attempt_of p rest.tables.entries in
    let at = at_last names p s read m new rest k a in
    let may = c.in_ok-may_follow.ensures line at in
    let size : suc (length m.lines.items) ≡ length new.lines.items = size_next names p s read m new rest k a in
    done_early names p s read m new rest k a c.each.invariant.followed c.args.attempts line (omega (arith, size, c.each.invariant.low)) at
    (λ w. false≢true (sym c.if-not-branch.true ∙ may.1 w))

pub each-preserved : goal.each-preserved
each-preserved c =
    let names = c.args.made.now.history.names in
    let read = c.args.made.now.history.catalogue.sigs in
    let p = c.args.program.now in
    let s = c.args.s.now in
    let m = c.each.made in
    let new = c.attempt.new.made in
    let rest = c.in_ok-rest.rest in
    let k = c.each.invariant.made in
    let a = c.in_ok-rest.ensures in
    let line = attempt_of p rest.tables.entries in
    let at = at_last names p s read m new rest k a in
    let may = (c.in_ok-may_follow.ensures line at).0 c.if-not-branch.false in
    let size : suc (length m.lines.items) ≡ length new.lines.items = size_next names p s read m new rest k a in
    record {
      made = made_next names p s read m new rest k a;
      followed = followed_next names p s read m new rest k a c.each.invariant.followed line at may.0 may.1;
      few = may.1.few;
      low = omega (arith, size, c.each-test.true, c.len.ensures);
    }

pub returns : goal.returns
returns c =
    let names = c.args.made.now.history.names in
    let read = c.args.made.now.history.catalogue.sigs in
    let p = c.args.program.now in
    let s = c.args.s.now in
    let m = c.each.made in
    let new = c.attempt-2.new.made in
    let k = c.each.invariant.made in
    IfOk-weaker c.attempt-2.result (IsAgain p s m new) (AreDone names p s read c.args.attempts new) (λ rest a.
    let size : suc (length m.lines.items) ≡ length new.lines.items = size_next names p s read m new rest k a in
    done_all names p s read m new rest k a c.each.invariant.followed c.args.attempts (omega (arith, size, c.each.invariant.low, c.each-test.false, c.len.ensures))) c.attempt-2.ensures
