use Rattle.std.proofs.Common.{◌≡◌, ◌+◌, ◌*◌, ◌-◌, length, drop}
use Rattle.dim_asm.specs.Source.{draft_count}
use Rattle.dim_asm.specs.Linking.{link_functions}
use Rattle.dim_asm.specs.Tables.{seen}
use Rattle.dim_asm.proofs.LinkLemmas.{behind}
use Rattle.dim_asm.proofs.linker.Tables.functions.Given as goal

abbrev pub invariant-loop-draft : goal.invariant-loop-draft
invariant-loop-draft l = record {
  line : l.line + draft_count (drop l.draft-index l.drafts) + 2 * (length l.drafts - l.draft-index) ≡ l.first + draft_count l.drafts + 2 * length l.drafts;
  same : behind l.funcs.items (link_functions (seen l.self) l.line (drop l.draft-index l.drafts)) ≡ link_functions (seen l.self) l.first l.drafts;
}
