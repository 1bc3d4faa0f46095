use Rattle.std.proofs.Common.{◌≡◌, ◌+◌, length, map, drop}
use Rattle.dim_asm.specs.Linking.{link_draft, each_line}
use Rattle.dim_asm.specs.Seen.{seen_draft}
use Rattle.dim_asm.specs.Tables.{seen}
use Rattle.dim_asm.proofs.LinkLemmas.{behind}
use Rattle.dim_asm.proofs.linker.Tables.drafts.Given as goal

abbrev pub invariant-loop-draft : goal.invariant-loop-draft
invariant-loop-draft l =
    let link = link_draft (seen l.self) (length l.drafts) in
    record {
      line : l.line ≡ l.first + l.draft-index;
      same : behind l.ops.items (each_line link l.line (map seen_draft (drop l.draft-index l.drafts))) ≡ each_line link l.first (map seen_draft l.drafts);
    }
