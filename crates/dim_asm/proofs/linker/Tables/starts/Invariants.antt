use Rattle.std.proofs.Common.{◌≡◌, ◌+◌, drop}
use Rattle.dim_asm.specs.Linking.{link_start, each_line}
use Rattle.dim_asm.specs.Tables.{seen}
use Rattle.dim_asm.proofs.LinkLemmas.{behind}
use Rattle.dim_asm.proofs.linker.Tables.starts.Given as goal

abbrev pub invariant-loop-draft : goal.invariant-loop-draft
invariant-loop-draft l =
    let link = link_start (seen l.self) in
    record {
      line : l.line ≡ l.first + l.draft-index;
      same : behind l.starts.items (each_line link l.line (drop l.draft-index l.drafts)) ≡ each_line link l.first l.drafts;
    }
