-- How long the text of two lists of signatures is, one behind the other.
use Rattle.std.proofs.Common.{◌≡◌, ◌+◌, ◌-◌, ◌≤◌, ◌<◌, ◌^◌, ℕ, suc, List, [], ◌∷◌, ◌++◌, length, refl, ap, ◌∙◌, arith, append-nil}
use Rattle.std.specs.List.{flat_map}
use Rattle.std.specs.Fmt.{decimal}
use Rattle.std.proofs.lemmas.Fmt.{length-decimal-le}
use Rattle.std.proofs.lemmas.List.{length-append}
use Rattle.std.proofs.lemmas.List.Concat.{flat_map-append}
use Rattle.dim_text.specs.Cuts.{ended}
use Rattle.dim_history_file.specs.declared.version.Version.TheVariants.{Two}
use Rattle.dim_history_file.specs.Value.{NamedSig}
use Rattle.dim_history_file.specs.Spelling.{Line, HeadLine, EndLine, spelled, sig_lines, lines_before_end, text_of, history_text}

text-append : (a b : List Line) → text_of (a ++ b) ≡ text_of a ++ text_of b
text-append a b = flat_map-append (λ line. ended (spelled line)) a b

abbrev before_end : List NamedSig → ℕ
before_end sigs = length (text_of (lines_before_end Two sigs))

abbrev end_line : ℕ → ℕ
end_line n = length (text_of (EndLine n ∷ []))

abbrev body : List NamedSig → ℕ
body sigs = length (text_of (flat_map (sig_lines Two) sigs))

pub whole : (sigs : List NamedSig) → length (history_text sigs) ≡ before_end sigs + end_line (length sigs)
whole sigs =
    ap length (text-append (lines_before_end Two sigs) (EndLine (length sigs) ∷ []))
    ∙ length-append (text_of (lines_before_end Two sigs)) (text_of (EndLine (length sigs) ∷ []))

pub head_and_body : (sigs : List NamedSig) → before_end sigs ≡ 14 + body sigs
head_and_body sigs = length-append (ended (spelled (HeadLine Two))) (text_of (flat_map (sig_lines Two) sigs))

body-append : (a b : List NamedSig) → body (a ++ b) ≡ body a + body b
body-append a b =
    ap length (ap text_of (flat_map-append (sig_lines Two) a b) ∙ text-append (flat_map (sig_lines Two) a) (flat_map (sig_lines Two) b))
    ∙ length-append (text_of (flat_map (sig_lines Two) a)) (text_of (flat_map (sig_lines Two) b))

pub both_bytes : (a b : List NamedSig) (x y z n : ℕ) → x ≡ before_end a → y ≡ before_end b → n ≡ length (a ++ b) → z ≡ end_line n
    → x + (y - 14) + z ≡ length (history_text (a ++ b))
both_bytes a b x y z n p q m r =
    let end : z ≡ end_line (length (a ++ b)) = r ∙ ap end_line m in
    omega (arith, whole (a ++ b), head_and_body (a ++ b), body-append a b, head_and_body a, head_and_body b, p, q, end)

line_is : (n : ℕ) → length (spelled (EndLine n)) ≡ 4 + length (decimal n)
line_is n = (let e : length (spelled (EndLine n)) ≡ suc (suc (suc (suc (length (decimal n))))) = refl in omega (arith, e))

pub end_few : (n : ℕ) → n < 2 ^ 32 → end_line n ≤ 15
end_few n h =
    let e = ap length (append-nil (ended (spelled (EndLine n)))) ∙ length-append (spelled (EndLine n)) (10 ∷ []) in
    omega (arith, e, line_is n, length-decimal-le 10 n (omega arith) (omega (arith, h)) (omega (arith, h)))
