-- How long the texts of histories are.
use Rattle.std.proofs.Common.{◌≡◌, ℕ, suc, ◌+◌, ◌*◌, ◌≤◌, true, false, refl, ap, ◌∙◌, arith, List, [], ◌∷◌, ◌++◌, length, map}
use Rattle.std.specs.Prelude.{Bool, codes}
use Rattle.std.specs.Fmt.{decimal}
use Rattle.std.specs.List.{AllByRecursion, flat_map, join_with_byte}
use Rattle.std.proofs.lemmas.Bool.{and_parts, leb-true}
use Rattle.std.proofs.lemmas.Fmt.{decimal_digit, length-decimal-le}
use Rattle.std.proofs.lemmas.List.{length-append}
use Rattle.std.proofs.lemmas.List.Concat.{flat_map-append}
use Rattle.std.proofs.lemmas.Option.{same_Some}
use Rattle.dim_text.specs.Cuts.{line_of, ended, frame_word}
use Rattle.dim_text.specs.Naming.{IsName}
use Rattle.dim_text.specs.States.{state_word}
use Rattle.dim_history_file.specs.Value.{NamedFrame, NamedSig}
use Rattle.dim_history_file.specs.declared.version.Version.{Version}
use Rattle.dim_history_file.specs.declared.version.Version.TheVariants.{One, Two}
use Rattle.dim_history_file.specs.Grammar.{IsFrame, IsStack, IsSignature, IsHistory, CanSay, CanSayAll}
use Rattle.dim_history_file.specs.Judging.{head}
use Rattle.dim_history_file.specs.Lengths.{HasGrown, LengthLaw}
use Rattle.dim_history_file.specs.Spelling.{Line, HeadLine, StackLine, EndLine, spelled, spelled_frame, opening_for, opening_words, sig_lines, lines_before_end, text_of, text_in, history_text}
use Rattle.dim_history_file.proofs.Moving.{spelled_back}

-- ---- lines
-- the bytes of words, with one more for each
abbrev size : List (List ℕ) → ℕ
size [] = 0
size (word ∷ words) = suc (length word) + size words

joined : (w : List ℕ) (ws : List (List ℕ)) → length (join_with_byte 32 (w ∷ ws)) + 1 ≡ size (w ∷ ws)
joined w [] = omega arith
joined w (v ∷ ws) =
    let i : length (join_with_byte 32 (v ∷ ws)) + 1 ≡ size (v ∷ ws) = joined v ws in
    let n : length (w ++ 32 ∷ join_with_byte 32 (v ∷ ws)) ≡ length w + length (32 ∷ join_with_byte 32 (v ∷ ws)) = length-append w (32 ∷ join_with_byte 32 (v ∷ ws)) in
    omega (arith, i, n)

line_size : (w : List ℕ) (ws : List (List ℕ)) → length (ended (line_of (w ∷ ws))) ≡ size (w ∷ ws)
line_size w ws = length-append (join_with_byte 32 (w ∷ ws)) (10 ∷ []) ∙ joined w ws

-- the bytes of lines
abbrev bytes_of : List Line → ℕ
bytes_of lines = length (text_of lines)

first_line : (l : Line) (ls : List Line) → bytes_of (l ∷ ls) ≡ length (ended (spelled l)) + bytes_of ls
first_line l ls = length-append (ended (spelled l)) (text_of ls)

more_lines : (ks ls : List Line) → bytes_of (ks ++ ls) ≡ bytes_of ks + bytes_of ls
more_lines ks ls = ap (λ (t : List ℕ). length t) (flat_map-append (λ (l : Line). ended (spelled l)) ks ls) ∙ length-append (text_of ks) (text_of ls)

-- ---- stacks
name_le : (name : List ℕ) → IsName name → length name ≤ 24
name_le name is = leb-true (length name) 24 (and_parts _ _ (and_parts _ _ is).0).1

frames_size : (stack : List NamedFrame) → AllByRecursion IsFrame stack → size (map spelled_frame stack) ≤ 31 * length stack
frames_size [] a = omega arith
frames_size (f ∷ stack) a =
    let near = a.0.near in
    let d : length (decimal f.at) ≤ 5 = length-decimal-le 5 f.at (omega arith) (omega (arith, near)) (omega (arith, near)) in
    let n : length f.name ≤ 24 = name_le f.name a.0.name in
    let k : length (frame_word f.name (decimal f.at)) ≡ length f.name + length (58 ∷ decimal f.at) = length-append f.name (58 ∷ decimal f.at) in
    let i : size (map spelled_frame stack) ≤ 31 * length stack = frames_size stack a.1 in
    omega (arith, d, n, k, i)

stack_le : (stack : List NamedFrame) → IsStack stack → length (ended (spelled (StackLine stack))) ≤ 992
stack_le [] is = absurd (let s = is.some in omega (arith, s))
stack_le (f ∷ stack) is =
    let few = is.few in
    let n : size (map spelled_frame (f ∷ stack)) ≤ 31 * length (f ∷ stack) = frames_size (f ∷ stack) is.frames in
    let l = line_size (spelled_frame f) (map spelled_frame stack) in
    omega (arith, few, n, l)

abbrev stack_lines : List (List NamedFrame) → List Line
stack_lines stacks = map (λ stack. StackLine stack) stacks

stacks_le : (stacks : List (List NamedFrame)) → AllByRecursion IsStack stacks → bytes_of (stack_lines stacks) ≤ 992 * length stacks
stacks_le [] a = omega arith
stacks_le (s ∷ stacks) a =
    let n = first_line (StackLine s) (stack_lines stacks) in
    let f = stack_le s a.0 in
    let i : bytes_of (stack_lines stacks) ≤ 992 * length stacks = stacks_le stacks a.1 in
    omega (arith, n, f, i)

-- ---- signatures
-- the bytes of a signature's numbers and of its stacks
abbrev two_numbers : NamedSig → ℕ
two_numbers s = length (decimal s.depth) + length (decimal (length s.stacks))

abbrev state_size : NamedSig → ℕ
state_size s = length (state_word s.on)

abbrev yields_size : NamedSig → ℕ
yields_size s = length (decimal s.yields)

abbrev stacks_size : NamedSig → ℕ
stacks_size s = bytes_of (stack_lines s.stacks)

abbrev sig_size : Version → NamedSig → ℕ
sig_size version s = bytes_of (sig_lines version s)

signature_word : length (codes "signature") ≡ 9
signature_word = refl

long_size : (s : NamedSig) → sig_size Two s ≡ 14 + two_numbers s + state_size s + yields_size s + stacks_size s
long_size s =
    let n = length-append (ended (line_of (codes "signature" ∷ opening_words Two (opening_for s)))) (text_of (stack_lines s.stacks)) in
    let l = line_size (codes "signature") (opening_words Two (opening_for s)) in
    omega (arith, n, l, signature_word)

short_size : (s : NamedSig) → sig_size One s ≡ 12 + two_numbers s + stacks_size s
short_size s =
    let n = length-append (ended (line_of (codes "signature" ∷ opening_words One (opening_for s)))) (text_of (stack_lines s.stacks)) in
    let l = line_size (codes "signature") (opening_words One (opening_for s)) in
    omega (arith, n, l, signature_word)

state_le : (on : Bool) → length (state_word on) ≤ 3
state_le true = omega arith
state_le false = omega arith

yields_le : (n : ℕ) → n ≤ 4294967295 → length (decimal n) ≤ 10
yields_le n few = length-decimal-le 10 n (omega arith) (omega (arith, few)) (omega (arith, few))

two_digits : (n : ℕ) → n ≤ 32 → length (decimal n) ≤ 2
two_digits n few = length-decimal-le 2 n (omega arith) (omega (arith, few)) (omega (arith, few))

-- a signature takes no more than this
sig_le : (s : NamedSig) → IsSignature s → sig_size Two s ≤ 31775
sig_le s is =
    let few = is.few in
    omega (arith, long_size s, two_digits s.depth is.high, two_digits (length s.stacks) few, state_le s.on, yields_le s.yields is.yields, stacks_le s.stacks is.stacks, few)

-- what version 1 leaves out
left_out : (s : NamedSig) → CanSay One s.on s.yields → sig_size Two s ≡ sig_size One s + 5
left_out s says =
    let a : state_size s ≡ 2 = ap (λ (on : Bool). length (state_word on)) says.0 in
    let b : yields_size s ≡ 1 = ap (λ (n : ℕ). length (decimal n)) says.1 ∙ ap (λ (ds : List ℕ). length ds) (decimal_digit 0 (omega arith)) in
    omega (arith, long_size s, short_size s, a, b)

-- other yields
more_yields : (s : NamedSig) (yields : ℕ) → yields ≤ 4294967295 → sig_size Two (record s { yields = yields }) ≤ sig_size Two s + 10
more_yields s yields few =
    let t : NamedSig = record s { yields = yields } in
    let a : sig_size Two t ≡ 14 + two_numbers s + state_size s + length (decimal yields) + stacks_size s = long_size t in
    omega (arith, long_size s, a, yields_le yields few)

-- ---- histories
abbrev body : Version → List NamedSig → ℕ
body version sigs = bytes_of (flat_map (sig_lines version) sigs)

next_sig : (version : Version) (s : NamedSig) (sigs : List NamedSig) → body version (s ∷ sigs) ≡ sig_size version s + body version sigs
next_sig version s sigs = more_lines (sig_lines version s) (flat_map (sig_lines version) sigs)

head_size : (version : Version) → length (ended (head version)) ≡ 14
head_size One = refl
head_size Two = refl

end_size : (n : ℕ) → bytes_of (EndLine n ∷ []) ≡ 5 + length (decimal n)
end_size n =
    let f = first_line (EndLine n) [] in
    let l = line_size (codes "end") (decimal n ∷ []) in
    let w : length (codes "end") ≡ 3 = refl in
    omega (arith, f, l, w)

whole : (version : Version) (sigs : List NamedSig) → length (text_in version sigs) ≡ 19 + body version sigs + length (decimal (length sigs))
whole version sigs =
    let m = more_lines (lines_before_end version sigs) (EndLine (length sigs) ∷ []) in
    let f = first_line (HeadLine version) (flat_map (sig_lines version) sigs) in
    omega (arith, m, f, head_size version, end_size (length sigs))

all_left_out : (sigs : List NamedSig) → CanSayAll One sigs → body Two sigs ≡ body One sigs + 5 * length sigs
all_left_out [] says = omega arith
all_left_out (s ∷ sigs) says =
    let i : body Two sigs ≡ body One sigs + 5 * length sigs = all_left_out sigs says.1 in
    omega (arith, i, left_out s says.0, next_sig One s sigs, next_sig Two s sigs)

read_by : (version : Version) (bytes : List ℕ) (sigs : List NamedSig) → CanSayAll version sigs → bytes ≡ text_in version sigs → length (history_text sigs) ≤ length bytes + 5 * length sigs
read_by One bytes sigs says is =
    let n : length bytes ≡ length (text_in One sigs) = ap (λ (t : List ℕ). length t) is in
    omega (arith, n, whole One sigs, whole Two sigs, all_left_out sigs says)
read_by Two bytes sigs says is =
    let n : length bytes ≡ length (text_in Two sigs) = ap (λ (t : List ℕ). length t) is in
    omega (arith, n)

-- what has grown, signature by signature
record IsLonger (older newer : List NamedSig) : Type 0 where
  more : length older ≤ length newer
  bytes : body Two newer + 31775 * length older ≤ body Two older + 10 * length older + 31775 * length newer

sig_grown : (s t : NamedSig) (yields : ℕ) → IsSignature t → t ≡ record s { yields = yields } → sig_size Two t ≤ sig_size Two s + 10
sig_grown s t yields is same =
    let top = is.yields in
    let y : t.yields ≡ yields = ap (λ (x : NamedSig). x.yields) same in
    let n : sig_size Two t ≡ sig_size Two (record s { yields = yields }) = ap (sig_size Two) same in
    omega (arith, n, more_yields s yields (omega (arith, top, y)))

longer : (older newer : List NamedSig) → AllByRecursion IsSignature newer → HasGrown older newer → IsLonger older newer
longer [] [] a g = record { more = omega arith; bytes = omega arith }
longer [] (t ∷ newer) a g =
    let i : IsLonger [] newer = longer [] newer a.1 (λ k s q. absurd (cc)) in
    let b = i.bytes in
    record { more = omega arith; bytes = omega (arith, b, next_sig Two t newer, sig_le t a.0) }
longer (s ∷ older) [] a g = absurd (let w = g 0 s refl in let q = w.1 in cc)
longer (s ∷ older) (t ∷ newer) a g =
    let w = g 0 s refl in
    let i : IsLonger older newer = longer older newer a.1 (λ k x q. g (suc k) x q) in
    let m = i.more in
    let b = i.bytes in
    let l : sig_size Two t ≤ sig_size Two s + 10 = sig_grown s t w.0 a.0 (same_Some t (record s { yields = w.0 }) w.1) in
    record { more = omega (arith, m); bytes = omega (arith, b, l, next_sig Two s older, next_sig Two t newer) }

grown : (older newer : List NamedSig) → IsHistory newer → HasGrown older newer
    → length (history_text newer) + 31775 * length older ≤ length (history_text older) + 10 * length older + 31775 * length newer + 4
grown older newer is g =
    let l = (longer older newer is.signatures g).bytes in
    let few = is.few in
    let d : length (decimal (length newer)) ≤ 4 = length-decimal-le 4 (length newer) (omega arith) (omega (arith, few)) (omega (arith, few)) in
    omega (arith, l, d, whole Two older, whole Two newer)

pub length_law : LengthLaw
length_law = record {
  read = λ bytes sigs q. let t = (spelled_back bytes sigs q).1 in read_by t.version bytes sigs t.says t.text;
  grown = grown;
}
