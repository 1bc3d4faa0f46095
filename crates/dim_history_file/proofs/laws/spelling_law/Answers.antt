use Rattle.dim_history_file.proofs.Moving.{spelled_back, only_text}
use Rattle.dim_history_file.proofs.laws.spelling_law.Goals as goal

pub returns : goal.returns
returns c = record {
  text = λ bytes sigs e. (spelled_back bytes sigs e).1;
  history = λ bytes sigs e. (spelled_back bytes sigs e).0;
  only = only_text;
}
