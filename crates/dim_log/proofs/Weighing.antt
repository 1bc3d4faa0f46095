-- How much a text names at most.
use Rattle.std.proofs.Common.{◌≡◌, ◌≢◌, ◌≤◌, ◌+◌, ◌*◌, ℕ, List, [], ◌∷◌, length, refl, ap, arith}
use Rattle.std.specs.Prelude.{◌==◌}
use Rattle.std.specs.List.{join_with_byte}
use Rattle.std.proofs.lemmas.List.{length-append}
use Rattle.dim_text.specs.Cuts.{lines_of}
use Rattle.dim_text.proofs.Exports.{some_part, text_of-lines_of}
use Rattle.dim_log.specs.Reader.{weight_of}

weighed : (line : List ℕ) (lines : List (List ℕ)) → weight_of (line ∷ lines) ≤ 3 * (length (join_with_byte 10 (line ∷ lines)) + 1)
weighed line [] = omega arith
weighed line (next ∷ lines) =
    let joined : length (join_with_byte 10 (line ∷ next ∷ lines)) ≡ length line + length (10 ∷ join_with_byte 10 (next ∷ lines)) = length-append line (10 ∷ join_with_byte 10 (next ∷ lines)) in
    omega (arith, joined, weighed next lines)

weighed_lines : (lines : List (List ℕ)) → lines ≢ [] → weight_of lines ≤ 3 * (length (join_with_byte 10 lines) + 1)
weighed_lines [] h = absurd (h refl)
weighed_lines (line ∷ lines) h = weighed line lines

pub weighed_text : (bytes : List ℕ) → weight_of (lines_of bytes) ≤ 3 * (length bytes + 1)
weighed_text bytes = omega (arith, weighed_lines (lines_of bytes) (some_part (λ b. b == 10) bytes), ap length (text_of-lines_of bytes))
