use Rattle.std.proofs.Common.{◌≡◌, ◌+◌, ◌++◌, length, map, Ok}
use Rattle.dim_text.specs.Reading.{◌>>=◌}
use Rattle.dim_stack.specs.Names.{IsNamedBy, HasNames}
use Rattle.dim_history_file.specs.Value.{named_frame}
use Rattle.dim_history_file.specs.Judging.{frames_of}
use Rattle.dim_history_file.specs.Naming.{names_in_words}
use Rattle.dim_history_file.proofs.frames.put_frames.Given as goal

abbrev pub invariant-loop-word : goal.invariant-loop-word
invariant-loop-word l = record {
  same : frames_of l.fn.words ≡ (frames_of l.words >>= λ rest. Ok (map (named_frame l.names) l.frames.items ++ rest));
  named : IsNamedBy l.names l.frames.items;
  size : length l.fn.words ≡ length l.frames.items + length l.words;
  covers : HasNames l.names (names_in_words l.words);
}

abbrev pub decreases-loop-word : goal.decreases-loop-word
decreases-loop-word l = length l.words
