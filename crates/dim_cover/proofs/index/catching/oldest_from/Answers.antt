use Rattle.std.proofs.Common.{◌≡◌, ◌+◌, ◌≤◌, ℕ, subst, arith}
use Rattle.dim_rag.specs.History.{past}
use Rattle.dim_cover.specs.Oldest.{IsOldest}
use Rattle.dim_cover.proofs.Seen.{IsSeen, thread_seen, lock_seen}
use Rattle.dim_cover.proofs.Oldest.{is_late, none_seen, sees_more, oldest_of_all}
use Rattle.dim_cover.proofs.index.catching.oldest_from.Goals as goal

pub loop-t-init : goal.loop-t-init
loop-t-init c = none_seen (past c.args.graph.now.entries) c.args.from

pub keep_older-requires : goal.keep_older-requires
keep_older-requires c = is_late (IsSeen (past c.args.graph.now.entries) c.loop-t.t 0) c.args.from c.loop-t.oldest c.loop-t.invariant

pub loop-t-preserved : goal.loop-t-preserved
loop-t-preserved c =
    let h = past c.args.graph.now.entries in
    sees_more h c.loop-t.t 0 (c.loop-t.t + 1) 0 c.args.from c.loop-t.oldest c.allow_of.result c.keep_older.new.oldest (thread_seen h c.loop-t.t c.allow_of.result c.allow_of.ensures.some c.allow_of.ensures.each) c.loop-t.invariant c.keep_older.ensures

pub keep_older-requires-in-loop-l : goal.keep_older-requires-in-loop-l
keep_older-requires-in-loop-l c = is_late (IsSeen (past c.args.graph.now.entries) c.args.graph.now.threads c.loop-l.l) c.args.from c.loop-l.oldest c.loop-l.invariant

pub loop-l-preserved : goal.loop-l-preserved
loop-l-preserved c =
    let h = past c.args.graph.now.entries in
    let n = c.args.graph.now.threads in
    sees_more h n c.loop-l.l n (c.loop-l.l + 1) c.args.from c.loop-l.oldest c.holder.result c.keep_older-in-loop-l.new.oldest (lock_seen h n c.loop-l.l c.holder.result c.holder.ensures.some c.holder.ensures.each) c.loop-l.invariant c.keep_older-in-loop-l.ensures

pub returns : goal.returns
returns c =
    let r = c.args.graph.now in
    let m : c.loop-l.l ≡ r.locks = (let a : c.locks-l-end.result ≤ c.loop-l.l = c.loop-l-test.false in let b : c.loop-l.l ≤ c.locks-l-end.result = c.loop-l.auto.l-end in omega (arith, a, b, c.locks-l-end.ensures.locks)) in
    oldest_of_all r.threads r.locks (past r.entries) c.args.from c.loop-l.oldest c.locks-l-end.ensures.in_range (subst (λ (x : ℕ). IsOldest (IsSeen (past r.entries) r.threads x) c.args.from c.loop-l.oldest) m c.loop-l.invariant)
