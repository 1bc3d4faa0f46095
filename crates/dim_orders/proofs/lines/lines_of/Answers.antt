use Rattle.std.proofs.Common.{◌≡◌, ℕ, List, length, map, sym, subst, ◌∙◌, arith}
use Rattle.std.proofs.lemmas.Option.{slice_get-get_or}
use Rattle.dim_log.specs.declared.log.Event.TheVariants.{Lock}
use Rattle.dim_orders.specs.Placing.{AreLasts, ArePlaced}
use Rattle.dim_orders.proofs.LineLemmas.{placed_once}
use Rattle.dim_orders.proofs.lines.lines_of.Goals as goal

pub loop-i-init : goal.loop-i-init
loop-i-init c =
    let e = c.in_ok-lines.ensures in
    record { len = e.len; free = e.free; placed = e.placed c.args.events.now }

pub loop-i-preserved : goal.loop-i-preserved
loop-i-preserved c =
    let events = c.args.events.now in
    let e = c.in_ok-take.ensures in
    let inv = c.loop-i.invariant in
    record {
      len = e.len ∙ inv.len;
      free = e.free ∙ inv.free;
      placed = e.placed events (slice_get-get_or events c.loop-i.i (Lock 0 0 0) c.loop-i-test.true)
          (subst (λ (xs : List ℕ). AreLasts events (length events) xs) (sym c.deref.ensures.value) c.in_ok-lasts.ensures.lasts) inv.placed;
    }

pub returns-clause-once : goal.returns-clause-once
returns-clause-once c =
    let events = c.args.events.now in
    let lines = c.loop-i.lines in
    let same : c.loop-i.i ≡ length events = omega arith in
    placed_once events (map (λ v. v.items) lines.lines.items) lines.line_of.items (map (λ v. v.items) lines.free.items)
    (subst (λ (n : ℕ). ArePlaced events n (map (λ v. v.items) lines.lines.items) lines.line_of.items (map (λ v. v.items) lines.free.items)) same c.loop-i.invariant.placed)
