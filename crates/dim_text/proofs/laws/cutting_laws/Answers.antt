use Rattle.dim_text.proofs.Cutting.{lines_of-ended, words_of-line_of, line_of-words_of, sides_of-frame_word, frame_word-sides_of}
use Rattle.dim_text.proofs.laws.cutting_laws.Goals as goal

pub returns : goal.returns
returns c = record {
  line = lines_of-ended;
  words = words_of-line_of;
  line_again = line_of-words_of;
  sides = sides_of-frame_word;
  sides_again = frame_word-sides_of;
}
