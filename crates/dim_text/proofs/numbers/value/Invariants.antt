use Rattle.std.proofs.Common.{◌≡◌, ◌≤◌, drop, true}
use Rattle.dim_text.specs.Numerals.{are_digits, value_after, value_of}
use Rattle.dim_text.proofs.numbers.value.Given as goal

abbrev pub invariant-loop-digit : goal.invariant-loop-digit
invariant-loop-digit l = record {
  small : l.value ≤ l.max;
  same : value_of l.digits ≡ value_after l.value (drop l.digit-index l.digits);
  digits : are_digits (drop l.digit-index l.digits) ≡ true;
}
