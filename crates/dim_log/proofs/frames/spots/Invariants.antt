use Rattle.std.proofs.Common.{◌≡◌, ◌≤◌, ◌+◌, ◌^◌, ◌++◌, length, Ok}
use Rattle.std.specs.Str.{bytes_eq}
use Rattle.dim_text.specs.Cuts.{words_of}
use Rattle.dim_text.specs.Reading.{◌>>=◌}
use Rattle.dim_log.specs.Tables.{with_all, functions_of}
use Rattle.dim_log.specs.Saying.{frames_of}
use Rattle.dim_log.specs.Seen.{said_stack, AreSpotsWithin}
use Rattle.dim_log.proofs.frames.spots.Given as goal

abbrev pub invariant-loop-word : goal.invariant-loop-word
invariant-loop-word l = record {
  same : frames_of (words_of l.text) ≡ (frames_of l.words >>= λ rest. Ok (said_stack l.functions l.spots.items ++ rest));
  functions : l.functions ≡ with_all bytes_eq l.fn.functions (functions_of (said_stack l.functions l.spots.items));
  within : AreSpotsWithin l.functions l.spots.items;
  room : length l.functions + length l.words ≤ 2 ^ 31;
}

abbrev pub decreases-loop-word : goal.decreases-loop-word
decreases-loop-word l = length l.words
