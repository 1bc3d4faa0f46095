use Rattle.std.proofs.Common.{◌<◌, arith, length}
use Rattle.std.proofs.lemmas.List.{length-set}
use Rattle.dim_rag.specs.History.{past}
use Rattle.dim_gate.proofs.HeldStacks.{each_born, stacks_more}
use Rattle.dim_gate.proofs.stacks.EdgeStacks.of.Goals as goal

pub stack_of-requires : goal.stack_of-requires
stack_of-requires c =
    let r = c.args.graph.now in
    each_born r.threads r.locks (past r.entries) c.args.births.now c.requires c.loop-i.i c.at.result c.at.ensures

pub loop-i-preserved : goal.loop-i-preserved
loop-i-preserved c = record {
  size = simp length-set c.loop-i.invariant.size;
  seen =
      let within : c.loop-i.i < length c.loop-i.list = omega (arith, c.loop-i-test.true, c.len-len.ensures.few, c.loop-i.invariant.size) in
      stacks_more (past c.args.graph.now.entries) c.loop-i.list c.args.births.now c.loop-i.i c.at.result c.stack_of.result within c.at.ensures c.stack_of.ensures c.loop-i.invariant.seen;
}
