use Rattle.std.proofs.Common.{◌≡◌, All, map, take}
use Rattle.dim_stack.specs.Names.{IsNamedBy}
use Rattle.dim_history_file.specs.Value.{named_stack}
use Rattle.dim_history_file.proofs.renaming.Renaming.stacks.Given as goal

abbrev pub invariant-loop-stack : goal.invariant-loop-stack
invariant-loop-stack l = record {
  same : map (named_stack l.self.to.now) l.renamed.items ≡ map (named_stack l.self.from.now) (take l.stack-index l.stacks);
  named : All (IsNamedBy l.self.to.now) l.renamed.items;
}
