use Rattle.std.proofs.Common.{map, subst, ◌∙◌}
use Rattle.dim_orders.specs.Placing.{EndsWith}
use Rattle.dim_orders.proofs.RowLemmas.{popped_fewer, popped_in, popped_shorter}
use Rattle.dim_orders.proofs.lines.Lines.take_free.Goals as goal

pub returns-in-Some-line_with_last-clause-fewer : goal.returns-in-Some-line_with_last-clause-fewer
returns-in-Some-line_with_last-clause-fewer c = λ x a among.
    c.loop-thread.invariant.fewer x a (popped_fewer c.loop-thread.self.free.items c.pop.new.rows.items c.args.by c.pop.result c.pop.ensures.popped c.pop.ensures.others x a among)

pub returns-in-Some-line_with_last-clause-found : goal.returns-in-Some-line_with_last-clause-found
returns-in-Some-line_with_last-clause-found c =
    let thread = c.in-Some.thread in (
      thread,
      c.loop-thread.invariant.fewer c.args.by thread (popped_in c.loop-thread.self.free.items c.pop.new.rows.items c.args.by thread c.in-Some.ensures.popped),
      subst (λ ls. EndsWith (map (λ v. v.items) ls.items) c.in-Some-line_with_last.line thread) c.loop-thread.invariant.lines c.in-Some-line_with_last.ensures,
    )

pub loop-thread-smaller : goal.loop-thread-smaller
loop-thread-smaller c = popped_shorter c.loop-thread.self.free.items c.pop.new.rows.items c.args.by c.in-Some.thread c.in-Some.ensures.popped

pub loop-thread-preserved : goal.loop-thread-preserved
loop-thread-preserved c = record {
  lines = c.loop-thread.invariant.lines;
  line_of = c.loop-thread.invariant.line_of;
  len = c.pop.ensures.len ∙ c.loop-thread.invariant.len;
  fewer = λ x a among. c.loop-thread.invariant.fewer x a (popped_fewer c.loop-thread.self.free.items c.pop.new.rows.items c.args.by c.pop.result c.pop.ensures.popped c.pop.ensures.others x a among);
}

pub returns-clause-fewer : goal.returns-clause-fewer
returns-clause-fewer c = λ x a among.
    c.loop-thread.invariant.fewer x a (popped_fewer c.loop-thread.self.free.items c.pop.new.rows.items c.args.by c.pop.result c.pop.ensures.popped c.pop.ensures.others x a among)
