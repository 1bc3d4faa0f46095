-- What contracts see of the histories that the words name.
use Rattle.std.specs.Prelude.{ℕ, ◌≤◌, List, length}
use Rattle.dim_history_file.specs.declared.history.History.{History}
use Rattle.dim_history_file.specs.Grammar.{IsHistory}
use Rattle.dim_history_file.specs.Seen.{value_of}
use Rattle.dim_history_file.specs.Value.{NamedSig}
use Rattle.dim_merge.specs.declared.sources.Texts.{Texts}
use Rattle.dim_merge.specs.declared.sources.Histories.{Histories}

abbrev pub texts_of : Texts → List ℕ × List ℕ
texts_of texts = (texts.first, texts.second)

abbrev pub values_of : Histories → List NamedSig × List NamedSig
values_of both = (value_of both.first, value_of both.second)

-- what holds of a history that was read: its table has at most one name for each frame of 4,096
-- signatures of 32 stacks of 32, and it has a text
pub record IsRead (h : History) : Type 0 where
  pub few : length h.names ≤ 4194304
  pub history : IsHistory (value_of h)
