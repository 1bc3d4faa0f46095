use Rattle.std.proofs.Common.{◌≡◌, ◌<◌, ℕ, true, false, List, length, get_or}
use Rattle.std.specs.Prelude.{slice_get, Some}
use Rattle.dim_stack.specs.declared.Frame.{Frame}
use Rattle.dim_cover.specs.Index.{pair, tag_of}
use Rattle.dim_cover.proofs.index.tags.wanted_by.Given as goal

-- the tags of the stacks so far
abbrev pub invariant-loop-i : goal.invariant-loop-i
invariant-loop-i l = record {
  size : length l.wanted ≡ 64;
  all : (j : ℕ) (s : List Frame) → j < l.i → slice_get l.sig.stacks j ≡ Some s → get_or l.wanted (tag_of (pair s)) false ≡ true;
}
