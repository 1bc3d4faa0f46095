-- Lines of a generated program's text, one more at a time, and the words that draw them.
use Rattle.std.proofs.Common.{◌≡◌, ℕ, zero, suc, ◌+◌, List, [], ◌∷◌, ◌++◌, map, refl, sym, ap, ◌∙◌, arith, append_assoc, append-nil}
use Rattle.std.specs.Prelude.{codes, pos}
use Rattle.std.specs.Fmt.{decimal}
use Rattle.std.proofs.lemmas.Fmt.{decimal_digit, decimal_step}
use Rattle.std.specs.List.{flat_map}
use Rattle.std.proofs.lemmas.List.{map_push}
use Rattle.std.proofs.lemmas.List.Concat.{flat_map-append}
use Rattle.rand_pcg.specs.Lcg.{Lcg}
use Rattle.rand_core.specs.Pcg32Seed.{pcg32_seed}
use Rattle.rand_pcg.specs.Pcg.{pcg32, pcg32_of_seed}
use Rattle.dim_text.specs.Cuts.{ended, line_of}
use Rattle.dim_asm.specs.declared.op.Op.TheVariants as op
use Rattle.dim_asm.specs.Source.{Statement, LockLine, FuncLine, OpLine, EndLine, Head, Close, Ready, DraftFunction, Source}
use Rattle.dim_asm.specs.Spelling.{spelled, function_lines, text_of, source_text}
use Rattle.dim_asm.specs.Printing.{thread_line}
use Rattle.dim_asm.proofs.Exports.{text-append}
use Rattle.dim_schedule.specs.Drawn.{word, after, generator}
use Rattle.dim_generate.specs.Generated.{from, numbered, lock_name}
use Rattle.dim_generate.specs.Drafted.{called, caller_draft, started, generated_source}

-- one word taken
pub word_is : (g : Lcg) (n : ℕ) (g' : Lcg) → (n, g') ≡ pcg32 g → n ≡ word g
unfolding word
word_is g n g' e = ap (λ (p : ℕ × Lcg). p.0) e

pub left_is : (g : Lcg) (n : ℕ) (g' : Lcg) → (n, g') ≡ pcg32 g → g' ≡ after 1 g
unfolding after
left_is g n g' e = ap (λ (p : ℕ × Lcg). p.1) e

-- words after words
pub after_after : (a b : ℕ) (g : Lcg) → after b (after a g) ≡ after (a + b) g
unfolding after
after_after a zero g = ap (λ n. after n g) (let e : a ≡ a + 0 = omega arith in e)
after_after a (suc b) g = ap (λ x. after 1 x) (after_after a b g) ∙ ap (λ n. after n g) (let e : suc (a + b) ≡ a + suc b = omega arith in e)

pub none_taken : (g : Lcg) → g ≡ after 0 g
unfolding after
none_taken g = refl

-- one word more, where m were taken
pub one_later : (m k : ℕ) (g now next : Lcg) → now ≡ after m g → next ≡ after 1 now → k ≡ m + 1 → next ≡ after k g
one_later m k g now next before e is = e ∙ ap (after 1) before ∙ after_after m 1 g ∙ ap (λ n. after n g) (sym is)

-- the numbers from s on, with one more at the end
-- none
none : (s : ℕ) → from s 0 ≡ []
unfolding from
none s = refl

more : (s n : ℕ) → from s (suc n) ≡ from s n ++ (s + n) ∷ []
unfolding from
more s zero = ap (λ m. m ∷ []) (let e : s ≡ s + 0 = omega arith in e)
more s (suc n) = ap (λ ns. s ∷ ns) (more (suc s) n ∙ ap (λ m. from (suc s) n ++ m ∷ []) (let e : suc s + n ≡ s + suc n = omega arith in e))

pub from_more : (n : ℕ) → from 0 (n + 1) ≡ from 0 n ++ n ∷ []
from_more n = ap (from 0) (let e : n + 1 ≡ suc n = omega arith in e) ∙ more 0 n ∙ ap (λ m. from 0 n ++ m ∷ []) (let e : 0 + n ≡ n = omega arith in e)

-- a text of lines, and those of one number more
grown : (lines line : ℕ → List Statement) (n : ℕ) (old mid new : List ℕ) → lines (n + 1) ≡ lines n ++ line n
    → mid ≡ old ++ text_of (lines n) → new ≡ mid ++ text_of (line n) → new ≡ old ++ text_of (lines (n + 1))
grown lines line n old mid new push before e =
    e ∙ ap (λ t. t ++ text_of (line n)) before ∙ append_assoc old (text_of (lines n)) (text_of (line n))
    ∙ ap (λ t. old ++ t) (sym (ap text_of push ∙ text-append (lines n) (line n)))

one_line : (s : Statement) → text_of (s ∷ []) ≡ ended (spelled s)
one_line s = append-nil (ended (spelled s))

mapped : {X : Type 0} (f : ℕ → X) (n : ℕ) → map f (from 0 (n + 1)) ≡ map f (from 0 n) ++ f n ∷ []
mapped f n = ap (map f) (from_more n) ∙ map_push f (from 0 n) n

-- those of functions
functions : (f : ℕ → DraftFunction) (n : ℕ) → flat_map function_lines (map f (from 0 (n + 1))) ≡ flat_map function_lines (map f (from 0 n)) ++ function_lines (f n)
functions f n =
    ap (flat_map function_lines) (mapped f n) ∙ flat_map-append function_lines (map f (from 0 n)) (f n ∷ [])
    ∙ ap (λ ls. flat_map function_lines (map f (from 0 n)) ++ ls) (append-nil (function_lines (f n)))

pub functions_grown : (f : ℕ → DraftFunction) (n : ℕ) (d : DraftFunction) (old mid new : List ℕ) → d ≡ f n
    → mid ≡ old ++ text_of (flat_map function_lines (map f (from 0 n))) → new ≡ mid ++ text_of (function_lines d)
    → new ≡ old ++ text_of (flat_map function_lines (map f (from 0 (n + 1))))
functions_grown f n d old mid new is before e =
    grown (λ k. flat_map function_lines (map f (from 0 k))) (λ k. function_lines (f k)) n old mid new (functions f n) before (e ∙ ap (λ x. mid ++ text_of (function_lines x)) is)

-- those of locks, and of threads
pub locks_grown : (n : ℕ) (old mid new : List ℕ) → mid ≡ old ++ text_of (map (λ name. LockLine name) (map lock_name (from 0 n)))
    → new ≡ mid ++ ended (spelled (LockLine (lock_name n))) → new ≡ old ++ text_of (map (λ name. LockLine name) (map lock_name (from 0 (n + 1))))
locks_grown n old mid new before e =
    grown (λ k. map (λ name. LockLine name) (map lock_name (from 0 k))) (λ k. LockLine (lock_name k) ∷ []) n old mid new
    (ap (map (λ name. LockLine name)) (mapped lock_name n) ∙ map_push (λ name. LockLine name) (map lock_name (from 0 n)) (lock_name n))
    before (e ∙ ap (λ t. mid ++ t) (sym (one_line (LockLine (lock_name n)))))

pub threads_grown : (n : ℕ) (old mid new : List ℕ) → mid ≡ old ++ text_of (map thread_line (map started (from 0 n)))
    → new ≡ mid ++ ended (spelled (thread_line (started n))) → new ≡ old ++ text_of (map thread_line (map started (from 0 (n + 1))))
threads_grown n old mid new before e =
    grown (λ k. map thread_line (map started (from 0 k))) (λ k. thread_line (started k) ∷ []) n old mid new
    (ap (map thread_line) (mapped started n) ∙ map_push thread_line (map started (from 0 n)) (started n))
    before (e ∙ ap (λ t. mid ++ t) (sym (one_line (thread_line (started n)))))

-- no line at first
none_yet : (lines : List ℕ → List Statement) (old : List ℕ) → lines [] ≡ [] → old ≡ old ++ text_of (lines (from 0 0))
none_yet lines old e = sym (ap (λ ns. old ++ text_of (lines ns)) (none 0) ∙ ap (λ ls. old ++ text_of ls) e ∙ append-nil old)

pub no_locks : (old : List ℕ) → old ≡ old ++ text_of (map (λ name. LockLine name) (map lock_name (from 0 0)))
no_locks old = none_yet (λ ns. map (λ name. LockLine name) (map lock_name ns)) old refl

pub no_threads : (old : List ℕ) → old ≡ old ++ text_of (map thread_line (map started (from 0 0)))
no_threads old = none_yet (λ ns. map thread_line (map started ns)) old refl

pub no_functions : (f : ℕ → DraftFunction) (old : List ℕ) → old ≡ old ++ text_of (flat_map function_lines (map f (from 0 0)))
no_functions f old = none_yet (λ ns. flat_map function_lines (map f ns)) old refl

-- the numbers that stand in the lines of each caller
zero_is : decimal 0 ≡ 48 ∷ []
zero_is = decimal_digit 0 (omega arith)

one_is : decimal 1 ≡ 49 ∷ []
one_is = decimal_digit 1 (omega arith)

twelve_is : decimal 12 ≡ 49 ∷ 50 ∷ []
twelve_is = decimal_step 12 (omega arith) (omega arith) ∙ ap (λ ds. ds ++ 50 ∷ []) one_is

-- the lines of a caller before its calls, and behind them
openers : List Statement
openers = OpLine (Ready (op.PutL 0)) ∷ OpLine (Ready (op.GetL 0)) ∷ OpLine (Ready (op.Jz 12)) ∷ []

closers : List Statement
closers = OpLine (Ready (op.GetL 0)) ∷ OpLine (Ready (op.Push (pos 1))) ∷ OpLine (Ready op.Sub) ∷ OpLine (Ready (op.PutL 0)) ∷ OpLine (Ready (op.Jmp 1)) ∷ OpLine (Ready op.Ret) ∷ EndLine ∷ []

opening : List ℕ → List ℕ → List ℕ
opening z t = ended (line_of (codes "PUTL" ∷ z ∷ [])) ++ (ended (line_of (codes "GETL" ∷ z ∷ [])) ++ (ended (line_of (codes "JZ" ∷ t ∷ [])) ++ []))

closing : List ℕ → List ℕ → List ℕ
closing z o =
    ended (line_of (codes "GETL" ∷ z ∷ [])) ++ (ended (line_of (codes "PUSH" ∷ o ∷ [])) ++ (codes "SUB\n" ++ (ended (line_of (codes "PUTL" ∷ z ∷ [])) ++ (ended (line_of (codes "JMP" ∷ o ∷ [])) ++ codes "RET\nend\n"))))

opening_is : text_of openers ≡ codes "PUTL 0\nGETL 0\nJZ 12\n"
unfolding openers opening
opening_is = ap (λ z. opening z (decimal 12)) zero_is ∙ ap (λ t. opening (48 ∷ []) t) twelve_is

closing_is : text_of closers ≡ codes "GETL 0\nPUSH 1\nSUB\nPUTL 0\nJMP 1\nRET\nend\n"
unfolding closers closing
closing_is = ap (λ z. closing z (decimal 1)) zero_is ∙ ap (λ o. closing (48 ∷ []) o) one_is

-- four pieces, one after another
four : (old a b c d one two three new : List ℕ) → one ≡ old ++ a → two ≡ one ++ b → three ≡ two ++ c → new ≡ three ++ d → new ≡ old ++ (a ++ (b ++ (c ++ d)))
four old a b c d one two three new e f g h =
    h ∙ ap (λ t. t ++ d) (g ∙ ap (λ t. t ++ c) (f ∙ ap (λ t. t ++ b) e))
    ∙ append_assoc (old ++ a ++ b) c d ∙ append_assoc (old ++ a) b (c ++ d) ∙ append_assoc old a (b ++ (c ++ d))

calls : ℕ → ℕ → ℕ → ℕ → List Statement
calls a b c d = map (λ f. OpLine (called f)) (a ∷ b ∷ c ∷ d ∷ [])

caller_lines : (i a b c d : ℕ) → text_of (function_lines (caller_draft i a b c d))
    ≡ ended (spelled (FuncLine (numbered (codes "m") i) 1)) ++ (text_of openers ++ (text_of (calls a b c d) ++ text_of closers))
unfolding openers calls closers
caller_lines i a b c d =
    text-append (FuncLine (numbered (codes "m") i) 1 ∷ []) (openers ++ (calls a b c d ++ closers))
    ∙ ap (λ t. t ++ text_of (openers ++ (calls a b c d ++ closers))) (one_line (FuncLine (numbered (codes "m") i) 1))
    ∙ ap (λ t. ended (spelled (FuncLine (numbered (codes "m") i) 1)) ++ t) (text-append openers (calls a b c d ++ closers) ∙ ap (λ t. text_of openers ++ t) (text-append (calls a b c d) closers))

pub caller_put : (i a b c d : ℕ) (old one two three new : List ℕ) → one ≡ old ++ ended (spelled (FuncLine (numbered (codes "m") i) 1)) → two ≡ one ++ codes "PUTL 0\nGETL 0\nJZ 12\n"
    → three ≡ two ++ text_of (map (λ f. OpLine (called f)) (a ∷ b ∷ c ∷ d ∷ [])) → new ≡ three ++ codes "GETL 0\nPUSH 1\nSUB\nPUTL 0\nJMP 1\nRET\nend\n"
    → new ≡ old ++ text_of (function_lines (caller_draft i a b c d))
unfolding calls
caller_put i a b c d old one two three new e f g h =
    four old (ended (spelled (FuncLine (numbered (codes "m") i) 1))) (text_of openers) (text_of (calls a b c d)) (text_of closers) one two three new
    e (f ∙ ap (λ t. one ++ t) (sym opening_is)) g (h ∙ ap (λ t. three ++ t) (sym closing_is))
    ∙ ap (λ t. old ++ t) (sym (caller_lines i a b c d))

-- the lines of all locks, functions and threads
pub all_put : (locks : List Statement) (first second : List DraftFunction) (threads : List Statement) (old one two three new : List ℕ)
    → one ≡ old ++ text_of locks → two ≡ one ++ text_of (flat_map function_lines first) → three ≡ two ++ text_of (flat_map function_lines second) → new ≡ three ++ text_of threads
    → new ≡ old ++ (text_of locks ++ (text_of (flat_map function_lines (first ++ second)) ++ text_of threads))
all_put locks first second threads old one two three new e f g h =
    let a = text_of (flat_map function_lines first) in
    let b = text_of (flat_map function_lines second) in
    let both : text_of (flat_map function_lines (first ++ second)) ≡ a ++ b =
    ap text_of (flat_map-append function_lines first second) ∙ text-append (flat_map function_lines first) (flat_map function_lines second) in
    four old (text_of locks) a b (text_of threads) one two three new e f g h
    ∙ ap (λ t. old ++ (text_of locks ++ t)) (sym (append_assoc a b (text_of threads)) ∙ ap (λ t. t ++ text_of threads) (sym both))

-- the text of a source, from these
sourced : (h l f t e : List ℕ) → h ++ l ++ f ++ t ++ e ≡ h ++ (l ++ (f ++ t)) ++ e
sourced h l f t e = ap (λ x. x ++ e) (append_assoc (h ++ l) f t ∙ append_assoc h l (f ++ t))

abbrev pieces : Source → List ℕ
pieces s = text_of (map (λ name. LockLine name) s.locks) ++ (text_of (flat_map function_lines s.funcs) ++ text_of (map thread_line s.threads))

pub source_lines : (s : Source) → source_text s
    ≡ codes "dim program 1\n" ++ pieces s ++ codes "end program\n"
source_lines s =
    let l = map (λ name. LockLine name) s.locks in
    let f = flat_map function_lines s.funcs in
    let t = map thread_line s.threads in
    text-append ((Head ∷ l) ++ f ++ t) (Close ∷ [])
    ∙ ap (λ x. x ++ text_of (Close ∷ [])) (text-append ((Head ∷ l) ++ f) t ∙ ap (λ x. x ++ text_of t) (text-append (Head ∷ l) f))
    ∙ sourced (codes "dim program 1\n") (text_of l) (text_of f) (text_of t) (codes "end program\n")

-- the words of a number
pub words_are : (n m : ℕ) (g : Lcg) → m ≡ n → g ≡ pcg32_of_seed (pcg32_seed 16 m) → g ≡ generator n
unfolding generator
words_are n m g is e = e ∙ ap (λ k. pcg32_of_seed (pcg32_seed 16 k)) is

put_between : (s : Source) (start one new : List ℕ) → start ≡ codes "dim program 1\n" → one ≡ start ++ pieces s → new ≡ one ++ codes "end program\n" → new ≡ source_text s
put_between s start one new of_start e f = f ∙ ap (λ t. t ++ codes "end program\n") (e ∙ ap (λ t. t ++ pieces s) of_start) ∙ sym (source_lines s)

pub whole_put : (n : ℕ) (g : Lcg) (start one new : List ℕ) → g ≡ generator n → start ≡ codes "dim program 1\n" → one ≡ start ++ pieces (generated_source g) → new ≡ one ++ codes "end program\n"
    → new ≡ source_text (generated_source (generator n))
whole_put n g start one new of_words of_start e f =
    put_between (generated_source g) start one new of_start e f ∙ ap (λ h. source_text (generated_source h)) of_words
