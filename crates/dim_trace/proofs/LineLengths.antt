-- How long the lines of a trace are.
use Rattle.std.proofs.Common.{◌≡◌, ℕ, zero, suc, ◌+◌, ◌*◌, ◌≤◌, refl, ap, ◌∙◌, arith, List, [], ◌∷◌, ◌++◌, length, map}
use Rattle.std.specs.Prelude.{codes, sum_by}
use Rattle.std.specs.Fmt.{decimal}
use Rattle.std.specs.List.{AllByRecursion, join_with_byte}
use Rattle.std.proofs.lemmas.Bool.{and_parts, leb-true}
use Rattle.std.proofs.lemmas.Fmt.{length-decimal-le}
use Rattle.std.proofs.lemmas.List.{length-append}
use Rattle.std.proofs.lemmas.List.Concat.{flat_map-append}
use Rattle.std.proofs.lemmas.List.Elements.{recursion_from_All}
use Rattle.std.proofs.lemmas.List.Sums.{sum_by-cons}
use Rattle.dim_base.specs.declared.Tid.{Tid}
use Rattle.dim_base.specs.declared.Lid.{Lid}
use Rattle.dim_stack.specs.declared.Frame.{Frame}
use Rattle.dim_stack.specs.Names.{IsTable}
use Rattle.dim_text.specs.Naming.{IsName}
use Rattle.dim_asm.specs.Code.{Code, AreNames}
use Rattle.dim_rag.specs.declared.entry.MissWhy.{MissWhy}
use Rattle.dim_rag.specs.declared.entry.MissWhy.TheVariants.{Busy, Avoid}
use Rattle.dim_rag.specs.declared.entry.Why.{Why}
use Rattle.dim_rag.specs.declared.entry.Why.TheVariants.{Done, Trapped, Spent}
use Rattle.dim_rag.specs.declared.entry.Entry.{Entry}
use Rattle.dim_rag.specs.declared.entry.Entry.TheVariants.{Go, Yield, Got, Free, Took, Miss, End, Break, Learn}
use Rattle.dim_trace.specs.Grammar.{IsThread, IsFrame, IsStack, IsBirth, AreBirths, IsWhy, IsMissWhy, IsEntry}
use Rattle.dim_trace.specs.Text.{name_at, lock_word, frame_word, stack_words, births_words, cover_words, miss_word, why_words, end_words, words_of_entry, line_of, text_of, head_lines, trace_text}
use Rattle.dim_trace.proofs.UnitCounts.{cost}

-- 1 for a Learn
abbrev pub is_learn : Entry → ℕ
is_learn (Learn births) = 1
is_learn _ = 0

-- the bytes of words, with one more for each
abbrev size : List (List ℕ) → ℕ
size [] = 0
size (word ∷ words) = suc (length word) + size words

size_more : (ws vs : List (List ℕ)) → size (ws ++ vs) ≡ size ws + size vs
size_more [] vs = omega arith
size_more (w ∷ ws) vs = let i : size (ws ++ vs) ≡ size ws + size vs = size_more ws vs in omega (arith, i)

join_size : (ws : List (List ℕ)) → length (join_with_byte 32 ws) ≤ size ws
join_size [] = omega arith
join_size (w ∷ []) = omega arith
join_size (w ∷ v ∷ ws) =
    let i : length (join_with_byte 32 (v ∷ ws)) ≤ size (v ∷ ws) = join_size (v ∷ ws) in
    let n : length (w ++ 32 ∷ join_with_byte 32 (v ∷ ws)) ≡ length w + length (32 ∷ join_with_byte 32 (v ∷ ws)) = length-append w (32 ∷ join_with_byte 32 (v ∷ ws)) in
    omega (arith, i, n)

pub line_size : (ws : List (List ℕ)) → length (line_of ws) ≤ suc (size ws)
line_size ws =
    let n : length (join_with_byte 32 ws ++ 10 ∷ []) ≡ length (join_with_byte 32 ws) + 1 = length-append (join_with_byte 32 ws) (10 ∷ []) in
    omega (arith, n, join_size ws)

pub text_more : (xs ys : List (List (List ℕ))) → length (text_of (xs ++ ys)) ≡ length (text_of xs) + length (text_of ys)
text_more xs ys = ap (λ (t : List ℕ). length t) (flat_map-append line_of xs ys) ∙ length-append (text_of xs) (text_of ys)

-- ---- names
name_le : (names : List (List ℕ)) (n : ℕ) → AllByRecursion IsName names → length (name_at names n) ≤ 24
name_le [] n a = omega arith
name_le (name ∷ names) zero a = leb-true (length name) 24 (and_parts _ _ (and_parts _ _ a.0).0).1
name_le (name ∷ names) (suc n) a = name_le names n a.1

lock_names : (names : List (List ℕ)) → AreNames names → AllByRecursion IsName names
lock_names [] a = tt
lock_names (name ∷ names) a = (a.0, lock_names names a.2)

-- ---- numbers
thread_le : (t : Tid) → IsThread t → length (decimal t.0) ≤ 2
thread_le t is = length-decimal-le 2 t.0 (omega arith) (omega (arith, is)) (omega (arith, is))

births_size : (bs : List ℕ) → AllByRecursion IsBirth bs → size (map decimal bs) ≤ 8 * length bs
births_size [] a = omega arith
births_size (b ∷ bs) a =
    let d : length (decimal b) ≤ 7 = length-decimal-le 7 b (omega arith) (omega (arith, a.0)) (omega (arith, a.0)) in
    let i : size (map decimal bs) ≤ 8 * length bs = births_size bs a.1 in
    omega (arith, d, i)

births_le : (bs : List ℕ) → AreBirths bs → size (births_words bs) ≤ 259
births_le bs is =
    let few = is.few in
    let d : length (decimal (length bs)) ≤ 2 = length-decimal-le 2 (length bs) (omega arith) (omega (arith, few)) (omega (arith, few)) in
    omega (arith, d, few, births_size bs is.near)

cover_le : (sig : ℕ) (bs : List ℕ) → sig ≤ 4095 → AreBirths bs → size (cover_words sig bs) ≤ 264
cover_le sig bs low is =
    let d : length (decimal sig) ≤ 4 = length-decimal-le 4 sig (omega arith) (omega (arith, low)) (omega (arith, low)) in
    omega (arith, d, births_le bs is)

module _ (p : Code) (names : List (List ℕ)) (locks : AreNames p.locks) (table : IsTable names) where
  named : AllByRecursion IsName names
  named = recursion_from_All IsName names table.named

  frames_size : (s : List Frame) → AllByRecursion (IsFrame names) s → size (stack_words names s) ≤ 31 * length s
  frames_size [] a = omega arith
  frames_size (f ∷ s) a =
      let near = a.0.near in
      let d : length (decimal f.at) ≤ 5 = length-decimal-le 5 f.at (omega arith) (omega (arith, near)) (omega (arith, near)) in
      let n : length (name_at names f.func) ≤ 24 = name_le names f.func named in
      let k : length (frame_word names f) ≡ length (name_at names f.func) + length (58 ∷ decimal f.at) = length-append (name_at names f.func) (58 ∷ decimal f.at) in
      let i : size (stack_words names s) ≤ 31 * length s = frames_size s a.1 in
      omega (arith, d, n, k, i)

  stack_le : (s : List Frame) → IsStack names s → size (stack_words names s) ≤ 992
  stack_le s is = omega (arith, is.few, frames_size s is.frames)

  -- the words of an entry that a thread makes at a lock
  act_le : (word : List ℕ) (t : Tid) (l : Lid) (rest : List (List ℕ)) → length word ≤ 5 → IsThread t → size (word ∷ decimal t.0 ∷ lock_word p l ∷ rest) ≤ 34 + size rest
  act_le word t l rest short is =
      let n : length (lock_word p l) ≤ 24 = name_le p.locks l.0 (lock_names p.locks locks) in
      omega (arith, short, thread_le t is, n)

  end_le : (t : Tid) (why : Why) → IsThread t → IsWhy why → size (end_words t why) ≤ 11
  end_le t Done is w = let n : length (codes "done") ≡ 4 = refl in omega (arith, n, thread_le t is)
  end_le t Spent is w = let n : length (codes "spent") ≡ 5 = refl in omega (arith, n, thread_le t is)
  end_le t (Trapped trap) is w =
      let high = w.1 in
      let n : length (codes "trap") ≡ 4 = refl in
      let d : length (decimal trap) ≤ 1 = length-decimal-le 1 trap (omega arith) (omega (arith, high)) (omega (arith, high)) in
      omega (arith, n, d, thread_le t is)

  why_le : (why : MissWhy) → IsMissWhy why → size (why_words why) ≤ 264
  why_le (Busy holder) is = omega (arith, thread_le holder is)
  why_le (Avoid cover) is = cover_le cover.sig cover.births is.sig is.births

  word_le : (why : MissWhy) → length (miss_word why) ≤ 5
  word_le (Busy holder) = let n : length (codes "busy") ≡ 4 = refl in omega (arith, n)
  word_le (Avoid cover) = let n : length (codes "avoid") ≡ 5 = refl in omega (arith, n)

  words_le : (e : Entry) → IsEntry p names e → size (words_of_entry p names e) ≤ 34 + (1256 * cost e + 231 * is_learn e)
  words_le (Go t l s) is =
      let n : length (codes "go") ≡ 2 = refl in
      omega (arith, act_le (codes "go") t l (stack_words names s) (omega (arith, n)) is.0, stack_le s is.2)
  words_le (Yield t l s sig births) is =
      let n : length (codes "yield") ≡ 5 = refl in
      let i = act_le (codes "yield") t l (cover_words sig births ++ stack_words names s) (omega (arith, n)) is.0 in
      omega (arith, i, size_more (cover_words sig births) (stack_words names s), cover_le sig births is.2.sig is.2.births, stack_le s is.3)
  words_le (Got t l) is =
      let n : length (codes "got") ≡ 3 = refl in
      act_le (codes "got") t l [] (omega (arith, n)) is.0
  words_le (Free t l) is =
      let n : length (codes "free") ≡ 4 = refl in
      act_le (codes "free") t l [] (omega (arith, n)) is.0
  words_le (Took t l s) is =
      let n : length (codes "took") ≡ 4 = refl in
      omega (arith, act_le (codes "took") t l (stack_words names s) (omega (arith, n)) is.0, stack_le s is.2)
  words_le (Miss t l s why) is =
      let i = act_le (miss_word why) t l (why_words why ++ stack_words names s) (word_le why) is.0 in
      omega (arith, i, size_more (why_words why) (stack_words names s), why_le why is.2, stack_le s is.3)
  words_le (End t why) is = omega (arith, end_le t why is.0 is.1)
  words_le (Break set t) is =
      let n : length (codes "break") ≡ 5 = refl in
      let low = is.0 in
      let d : length (decimal set) ≤ 10 = length-decimal-le 10 set (omega arith) (omega (arith, low)) (omega (arith, low)) in
      omega (arith, n, d, thread_le t is.1)
  words_le (Learn births) is =
      let n : length (codes "learn") ≡ 5 = refl in
      omega (arith, n, births_le births is)

  -- the lines of entries
  entries_le : (es : List Entry) → AllByRecursion (IsEntry p names) es → length (text_of (map (words_of_entry p names) es)) ≤ 35 * length es + (1256 * sum_by cost es + 231 * sum_by is_learn es)
  entries_le [] a = omega arith
  entries_le (e ∷ es) a =
      let words = words_of_entry p names e in
      let lines = map (words_of_entry p names) es in
      let i : length (text_of lines) ≤ 35 * length es + (1256 * sum_by cost es + 231 * sum_by is_learn es) = entries_le es a.1 in
      let n : length (text_of (words ∷ lines)) ≡ length (line_of words) + length (text_of lines) = length-append (line_of words) (text_of lines) in
      omega (arith, i, n, line_size words, words_le e a.0, sum_by-cons cost e es, sum_by-cons is_learn e es)

  head_le : (fuel depth : ℕ) → fuel ≤ 8192 → depth ≤ 32 → length (text_of (head_lines fuel depth)) ≤ 40
  head_le fuel depth few low =
      let first : List (List ℕ) = codes "dim" ∷ codes "trace" ∷ codes "1" ∷ [] in
      let second : List (List ℕ) = codes "settings" ∷ decimal fuel ∷ decimal depth ∷ [] in
      let a : length (codes "dim") ≡ 3 = refl in
      let b : length (codes "trace") ≡ 5 = refl in
      let c : length (codes "1") ≡ 1 = refl in
      let s : length (codes "settings") ≡ 8 = refl in
      let f : length (decimal fuel) ≤ 4 = length-decimal-le 4 fuel (omega arith) (omega (arith, few)) (omega (arith, few)) in
      let d : length (decimal depth) ≤ 2 = length-decimal-le 2 depth (omega arith) (omega (arith, low)) (omega (arith, low)) in
      let n : length (text_of (first ∷ second ∷ [])) ≡ length (line_of first) + length (text_of (second ∷ [])) = length-append (line_of first) (text_of (second ∷ [])) in
      let m : length (text_of (second ∷ [])) ≡ length (line_of second) + length (text_of []) = length-append (line_of second) (text_of []) in
      omega (arith, a, b, c, s, f, d, n, m, line_size first, line_size second)

  end_line : (count : ℕ) → count ≤ 1048576 → length (text_of ((codes "end" ∷ decimal count ∷ []) ∷ [])) ≤ 20
  end_line count few =
      let last : List (List ℕ) = codes "end" ∷ decimal count ∷ [] in
      let a : length (codes "end") ≡ 3 = refl in
      let d : length (decimal count) ≤ 7 = length-decimal-le 7 count (omega arith) (omega (arith, few)) (omega (arith, few)) in
      let n : length (text_of (last ∷ [])) ≡ length (line_of last) + length (text_of []) = length-append (line_of last) (text_of []) in
      omega (arith, a, d, n, line_size last)

  -- a text with so few entries, stacks and Learns
  pub text_le : (fuel depth : ℕ) (es : List Entry) → fuel ≤ 8192 → depth ≤ 32 → length es ≤ 1048576 → sum_by cost es ≤ 262144 → sum_by is_learn es ≤ 48 → AllByRecursion (IsEntry p names) es
      → length (trace_text p names fuel depth es) ≤ 536870912
  unfolding trace_text
  text_le fuel depth es few low short stacks cycles each =
      let head = head_lines fuel depth in
      let body = map (words_of_entry p names) es in
      let last : List (List (List ℕ)) = (codes "end" ∷ decimal (length es) ∷ []) ∷ [] in
      omega (arith, text_more head (body ++ last), text_more body last, head_le fuel depth few low, entries_le es each, end_line (length es) short, short, stacks, cycles)
