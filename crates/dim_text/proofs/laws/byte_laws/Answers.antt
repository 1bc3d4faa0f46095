use Rattle.dim_text.proofs.Digits.{HasNo-decimal}
use Rattle.dim_text.proofs.NameLemmas.{HasNo-name}
use Rattle.dim_text.proofs.laws.byte_laws.Goals as goal

pub returns : goal.returns
returns c = record {
  names = HasNo-name;
  numbers = HasNo-decimal;
}
