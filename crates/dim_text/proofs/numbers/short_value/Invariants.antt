use Rattle.std.proofs.Common.{◌≡◌, ◌<◌, ◌^◌, drop}
use Rattle.dim_text.specs.Numerals.{are_digits, value_after, value_of}
use Rattle.dim_text.proofs.numbers.short_value.Given as goal

abbrev pub invariant-loop-byte : goal.invariant-loop-byte
invariant-loop-byte l = record {
  small : l.value < 10 ^ l.byte-index;
  same : value_of l.word ≡ value_after l.value (drop l.byte-index l.word);
  digits : are_digits l.word ≡ are_digits (drop l.byte-index l.word);
}
