-- A generated program is a program, and its text is its source's.
use Rattle.std.proofs.Common.{◌≡◌, ℕ, zero, suc, ◌+◌, ◌*◌, ◌<◌, ◌≤◌, List, [], ◌∷◌, ◌++◌, map, length, get_or, All, Bool, true, false, Ok, refl, sym, ap, ◌∙◌, subst, arith, append-nil, rules}
use Rattle.std.specs.Prelude.{◌%◌, ◌&&◌, not, codes, pos, FitsSigned}
use Rattle.std.specs.Int.{w64}
use Rattle.std.specs.Fmt.{digits}
use Rattle.std.proofs.Math.Nat.{mod-lt}
use Rattle.std.proofs.lemmas.List.{length-map, length-append, map-append}
use Rattle.std.proofs.lemmas.List.Elements.{All-append, All-from_recursion}
use Rattle.dim_text.specs.Naming.{is_name}
use Rattle.dim_asm.specs.declared.op.Op.TheVariants as op
use Rattle.dim_asm.specs.declared.mnemonic.Naming.TheVariants as naming
use Rattle.dim_asm.specs.declared.start.Start.{Start}
use Rattle.dim_asm.specs.Assembling.{program_of}
use Rattle.dim_asm.specs.Bound.{bound, own_names}
use Rattle.dim_asm.specs.Code.{Function, func_names, op_count, lock_count, func_count, has_name, AreNames, IsFine, IsWithin, IsFunction, IsProgram}
use Rattle.dim_asm.specs.Linking.{Tables}
use Rattle.dim_asm.specs.Printing.{names_in, name_at, named, named_function, named_start, program_text, HasWidth, IsPrintable}
use Rattle.dim_asm.specs.Source.{Source, DraftFunction, DraftStart, Ready, Refers}
use Rattle.dim_asm.proofs.Exports.{text_again}
use Rattle.dim_schedule.specs.Drawn.{generator, after, word, word_at}
use Rattle.dim_generate.specs.Generated.{from, numbered, lock_name, first_lock, second_lock, taker, caller, start, generated_program}
use Rattle.dim_generate.specs.Drafted.{taker_of, caller_of, started, generated_source}
use Rattle.dim_generate.proofs.Drawing.{after_after}

-- how many numbers, and which one stands at a place
length_from : (s n : ℕ) → length (from s n) ≡ n
unfolding from
length_from s zero = refl
length_from s (suc n) = ap suc (length_from (suc s) n)

pub length_mapped : {X : Type 0} (f : ℕ → X) (s n : ℕ) → length (map f (from s n)) ≡ n
length_mapped f s n = length-map (from s n) f ∙ length_from s n

at_place : {X : Type 0} (f : ℕ → X) (s n k : ℕ) (ys : List X) (d : X) → k < n → get_or (map f (from s n) ++ ys) k d ≡ f (s + k)
unfolding from
at_place f s zero k ys d lt = absurd (omega (arith, lt))
at_place f s (suc n) zero ys d lt = ap f (let e : s ≡ s + 0 = omega arith in e)
at_place f s (suc n) (suc k) ys d lt = at_place f (suc s) n k ys d (omega (arith, lt)) ∙ ap f (let e : suc s + k ≡ s + suc k = omega arith in e)

behind : {X : Type 0} (f : ℕ → X) (s n k : ℕ) (ys : List X) (d : X) → get_or (map f (from s n) ++ ys) (n + k) d ≡ get_or ys k d
unfolding from
behind f s zero k ys d = ap (λ i. get_or ys i d) (let e : 0 + k ≡ k = omega arith in e)
behind f s (suc n) k ys d = ap (λ i. get_or (map f (from s (suc n)) ++ ys) i d) (let e : suc n + k ≡ suc (n + k) = omega arith in e) ∙ behind f (suc s) n k ys d

at_place_alone : {X : Type 0} (f : ℕ → X) (s n k : ℕ) (d : X) → k < n → get_or (map f (from s n)) k d ≡ f (s + k)
at_place_alone f s n k d lt = ap (λ xs. get_or xs k d) (sym (append-nil (map f (from s n)))) ∙ at_place f s n k [] d lt

-- what holds of each number's value
all_mapped : {X : Type 0} (P : X → Type 0) (f : ℕ → X) (n : ℕ) → ((i : ℕ) → i < n → P (f i)) → All P (map f (from 0 n))
all_mapped P f n holds = λ k d low.
    let lt : k < n = subst (λ m. k < m) (length_mapped f 0 n) low in
    subst P (sym (at_place_alone f 0 n k d lt ∙ ap f (let e : 0 + k ≡ k = omega arith in e))) (holds k lt)

-- values of values
mapped_twice : {X Y : Type 0} (g : X → Y) (f : ℕ → X) (h : ℕ → Y) (s n : ℕ) → ((i : ℕ) → s ≤ i → i < s + n → g (f i) ≡ h i) → map g (map f (from s n)) ≡ map h (from s n)
unfolding from
mapped_twice g f h s zero same = refl
mapped_twice g f h s (suc n) same =
    ap (λ x. x ∷ map g (map f (from (suc s) n))) (same s (omega arith) (omega arith))
    ∙ ap (λ xs. h s ∷ xs) (mapped_twice g f h (suc s) n (λ i low high. same i (omega (arith, low)) (omega (arith, high))))

-- the locks, and their names
first_low : (v : ℕ) → first_lock v < 16
first_low v = mod-lt v (omega arith)

second_low : (v w : ℕ) → second_lock v w < 16
second_low v w = mod-lt (first_lock v + 1 + w % 15) (omega arith)

func_low : (w : ℕ) → w % 32 < 32
func_low w = mod-lt w (omega arith)

tables : ℕ → Tables
tables n = names_in (generated_program n)

lock_is : (n x : ℕ) → x < 16 → name_at (tables n).locks x ≡ lock_name x
unfolding tables
lock_is n x lt = at_place_alone lock_name 0 16 x [] lt ∙ ap lock_name (let e : 0 + x ≡ x = omega arith in e)

-- the names of the functions
names : List (List ℕ)
names = map (numbered (codes "f")) (from 0 32) ++ map (numbered (codes "m")) (from 0 16)

names_are : (n : ℕ) → func_names (generated_program n).funcs ≡ names
unfolding names
names_are n =
    map-append (λ (f : Function). f.name) (map (taker n) (from 0 32)) (map (caller n) (from 0 16))
    ∙ ap (λ ns. ns ++ map (λ (f : Function). f.name) (map (caller n) (from 0 16))) (mapped_twice (λ (f : Function). f.name) (taker n) (numbered (codes "f")) 0 32 (λ i low high. refl))
    ∙ ap (λ ns. map (numbered (codes "f")) (from 0 32) ++ ns) (mapped_twice (λ (f : Function). f.name) (caller n) (numbered (codes "m")) 0 16 (λ i low high. refl))

taker_name : (n x : ℕ) → x < 32 → name_at (tables n).names x ≡ numbered (codes "f") x
unfolding tables names
taker_name n x lt = ap (λ ns. name_at ns x) (names_are n) ∙ at_place (numbered (codes "f")) 0 32 x (map (numbered (codes "m")) (from 0 16)) [] lt ∙ ap (numbered (codes "f")) (let e : 0 + x ≡ x = omega arith in e)

caller_name : (n x : ℕ) → x < 16 → name_at (tables n).names (32 + x) ≡ numbered (codes "m") x
unfolding tables names
caller_name n x lt =
    ap (λ ns. name_at ns (32 + x)) (names_are n) ∙ behind (numbered (codes "f")) 0 32 x (map (numbered (codes "m")) (from 0 16)) []
    ∙ at_place_alone (numbered (codes "m")) 0 16 x [] lt ∙ ap (numbered (codes "m")) (let e : 0 + x ≡ x = omega arith in e)

-- in its text a program has names in place of numbers
takes_two : ℕ → List ℕ → List ℕ → DraftFunction
takes_two i x y = record {
  name = numbered (codes "f") i;
  locals = 0;
  drafts = Refers naming.Lock x ∷ Refers naming.Lock y ∷ Refers naming.Unlock y ∷ Refers naming.Unlock x ∷ Ready op.Ret ∷ [];
}

taker_named : (n i : ℕ) → named_function (tables n) (taker n i) ≡ taker_of (generator n) i
unfolding takes_two
taker_named n i =
    let v = word_at n (2 * i) in
    let w = word_at n (2 * i + 1) in
    let x = first_lock v in
    let y = second_lock v w in
    ap (λ z. takes_two i z (name_at (tables n).locks y)) (lock_is n x (first_low v)) ∙ ap (λ z. takes_two i (lock_name x) z) (lock_is n y (second_low v w))

calls_four : ℕ → List ℕ → List ℕ → List ℕ → List ℕ → DraftFunction
calls_four i a b c d = record {
  name = numbered (codes "m") i;
  locals = 1;
  drafts =
      Ready (op.PutL 0) ∷ Ready (op.GetL 0) ∷ Ready (op.Jz 12) ∷ Refers naming.Call a ∷ Refers naming.Call b ∷ Refers naming.Call c ∷ Refers naming.Call d
      ∷ Ready (op.GetL 0) ∷ Ready (op.Push (pos 1)) ∷ Ready op.Sub ∷ Ready (op.PutL 0) ∷ Ready (op.Jmp 1) ∷ Ready op.Ret ∷ [];
}

-- the word at a place behind the first 64
later : (n k place : ℕ) → place ≡ 64 + k → word (after k (after 64 (generator n))) ≡ word_at n place
later n k place e = ap word (after_after 64 k (generator n) ∙ ap (λ p. after p (generator n)) (sym e))

caller_named : (n i : ℕ) → named_function (tables n) (caller n i) ≡ caller_of (after 64 (generator n)) i
unfolding calls_four
caller_named n i =
    let f : ℕ → List ℕ = λ w. name_at (tables n).names (w % 32) in
    let h : ℕ → List ℕ = λ w. numbered (codes "f") (w % 32) in
    let g = after 64 (generator n) in
    let is : (place k : ℕ) → place ≡ 64 + k → f (word_at n place) ≡ h (word (after k g)) =
    λ place k e. taker_name n (word_at n place % 32) (func_low (word_at n place)) ∙ ap h (sym (later n k place e)) in
    ap (λ z. calls_four i z (f (word_at n (64 + 4 * i + 1))) (f (word_at n (64 + 4 * i + 2))) (f (word_at n (64 + 4 * i + 3)))) (is (64 + 4 * i) (4 * i) refl)
    ∙ ap (λ z. calls_four i (h (word (after (4 * i) g))) z (f (word_at n (64 + 4 * i + 2))) (f (word_at n (64 + 4 * i + 3)))) (is (64 + 4 * i + 1) (4 * i + 1) (omega arith))
    ∙ ap (λ z. calls_four i (h (word (after (4 * i) g))) (h (word (after (4 * i + 1) g))) z (f (word_at n (64 + 4 * i + 3)))) (is (64 + 4 * i + 2) (4 * i + 2) (omega arith))
    ∙ ap (λ z. calls_four i (h (word (after (4 * i) g))) (h (word (after (4 * i + 1) g))) (h (word (after (4 * i + 2) g))) z) (is (64 + 4 * i + 3) (4 * i + 3) (omega arith))

funcs_named : (n : ℕ) → map (named_function (tables n)) (generated_program n).funcs ≡ map (taker_of (generator n)) (from 0 32) ++ map (caller_of (after 64 (generator n))) (from 0 16)
funcs_named n =
    map-append (named_function (tables n)) (map (taker n) (from 0 32)) (map (caller n) (from 0 16))
    ∙ ap (λ fs. fs ++ map (named_function (tables n)) (map (caller n) (from 0 16))) (mapped_twice (named_function (tables n)) (taker n) (taker_of (generator n)) 0 32 (λ i low high. taker_named n i))
    ∙ ap (λ fs. map (taker_of (generator n)) (from 0 32) ++ fs) (mapped_twice (named_function (tables n)) (caller n) (caller_of (after 64 (generator n))) 0 16 (λ i low high. caller_named n i))

start_of : List ℕ → DraftStart
start_of name = record { func = name; argument = pos 100 }

start_named : (n i : ℕ) → i < 16 → named_start (tables n) (start i) ≡ started i
unfolding start_of
start_named n i lt = ap start_of (caller_name n i lt)

threads_named : (n : ℕ) → map (named_start (tables n)) (generated_program n).threads ≡ map started (from 0 16)
threads_named n = mapped_twice (named_start (tables n)) start started 0 16 (λ i low high. start_named n i (omega (arith, high)))

source_by : List DraftFunction → List DraftStart → Source
source_by funcs threads = record { locks = map lock_name (from 0 16); funcs = funcs; threads = threads }

pub named_is : (n : ℕ) → generated_source (generator n) ≡ named (generated_program n)
unfolding tables source_by generated_source
named_is n = sym (
    ap (λ fs. source_by fs (map (named_start (tables n)) (generated_program n).threads)) (funcs_named n)
    ∙ ap (λ ts. source_by (map (taker_of (generator n)) (from 0 32) ++ map (caller_of (after 64 (generator n))) (from 0 16)) ts) (threads_named n)
    )

-- names that are names, and differ from one another
are_names : List (List ℕ) → Bool
are_names [] = true
are_names (name ∷ names) = is_name name && (not (has_name names name) && are_names names)

both : (a b : Bool) → (a && b) ≡ true → (a ≡ true) × (b ≡ true)
both true b e = (refl, e)
both false b e = absurd cc (e)

no : (a : Bool) → not a ≡ true → a ≡ false
no false e = refl
no true e = absurd cc (e)

names_from : (names : List (List ℕ)) → are_names names ≡ true → AreNames names
unfolding are_names
names_from [] e = tt
names_from (name ∷ names) e =
    let first = both (is_name name) (not (has_name names name) && are_names names) e in
    let rest = both (not (has_name names name)) (are_names names) first.1 in
    (first.0, no (has_name names name) rest.0, names_from names rest.1)

locks_spelled : List (List ℕ)
locks_spelled = codes "l00" ∷ codes "l01" ∷ codes "l02" ∷ codes "l03" ∷ codes "l04" ∷ codes "l05" ∷ codes "l06" ∷ codes "l07" ∷ codes "l08" ∷ codes "l09" ∷ codes "l10" ∷ codes "l11" ∷ codes "l12" ∷ codes "l13" ∷ codes "l14" ∷ codes "l15" ∷ []

locks_are : map lock_name (from 0 16) ≡ locks_spelled
unfolding from digits locks_spelled
locks_are = refl

locks_differ : are_names locks_spelled ≡ true
unfolding are_names locks_spelled
locks_differ = refl

lock_names : AreNames (map lock_name (from 0 16))
lock_names = subst AreNames (sym locks_are) (names_from locks_spelled locks_differ)

funcs_spelled : List (List ℕ)
funcs_spelled =
    codes "f00" ∷ codes "f01" ∷ codes "f02" ∷ codes "f03" ∷ codes "f04" ∷ codes "f05" ∷ codes "f06" ∷ codes "f07" ∷ codes "f08" ∷ codes "f09" ∷ codes "f10" ∷ codes "f11" ∷ codes "f12" ∷ codes "f13" ∷ codes "f14" ∷ codes "f15" ∷ codes "f16" ∷ codes "f17" ∷ codes "f18" ∷ codes "f19" ∷ codes "f20" ∷ codes "f21" ∷ codes "f22" ∷ codes "f23" ∷ codes "f24" ∷ codes "f25" ∷ codes "f26" ∷ codes "f27" ∷ codes "f28" ∷ codes "f29" ∷ codes "f30" ∷ codes "f31"
    ∷ codes "m00" ∷ codes "m01" ∷ codes "m02" ∷ codes "m03" ∷ codes "m04" ∷ codes "m05" ∷ codes "m06" ∷ codes "m07" ∷ codes "m08" ∷ codes "m09" ∷ codes "m10" ∷ codes "m11" ∷ codes "m12" ∷ codes "m13" ∷ codes "m14" ∷ codes "m15" ∷ []

funcs_are : names ≡ funcs_spelled
unfolding from digits names funcs_spelled
funcs_are = refl

funcs_differ : are_names funcs_spelled ≡ true
unfolding are_names funcs_spelled
funcs_differ = refl

func_names_are : AreNames names
func_names_are = subst AreNames (sym funcs_are) (names_from funcs_spelled funcs_differ)

-- the instructions are those of a program with 16 locks and 48 functions
taker_fits : (n i locks funcs : ℕ) → locks ≡ 16 → IsFunction locks funcs (taker n i)
taker_fits n i locks funcs l =
    let v = word_at n (2 * i) in
    let w = word_at n (2 * i + 1) in
    let x : first_lock v < locks = let e = first_low v in omega (arith, e, l) in
    let y : second_lock v w < locks = let e = second_low v w in omega (arith, e, l) in
    record {
      some_ops = omega arith;
      few_locals = omega arith;
      fine = All-from_recursion (IsFine locks funcs) (taker n i).ops (x, (y, (y, (x, (tt, tt)))));
      within = All-from_recursion (IsWithin 5) (taker n i).ops (tt, (tt, (tt, (tt, (tt, tt)))));
    }

caller_fits : (n i locks funcs : ℕ) → funcs ≡ 48 → IsFunction locks funcs (caller n i)
caller_fits n i locks funcs f =
    let is : (w : ℕ) → w % 32 < funcs = λ w. let e = func_low w in omega (arith, e, f) in
    record {
      some_ops = omega arith;
      few_locals = omega arith;
      fine = All-from_recursion (IsFine locks funcs) (caller n i).ops
          (tt, (tt, (tt, (is (word_at n (64 + 4 * i)), (is (word_at n (64 + 4 * i + 1)), (is (word_at n (64 + 4 * i + 2)), (is (word_at n (64 + 4 * i + 3)), (tt, (tt, (tt, (tt, (tt, (tt, tt)))))))))))));
      within = All-from_recursion (IsWithin 13) (caller n i).ops
          (omega arith, (omega arith, (omega arith, (tt, (tt, (tt, (tt, (omega arith, (tt, (tt, (omega arith, (omega arith, (tt, tt)))))))))))));
    }

taker_wide : (n i : ℕ) → All HasWidth (taker n i).ops
taker_wide n i = All-from_recursion HasWidth (taker n i).ops (tt, (tt, (tt, (tt, (tt, tt)))))

one_fits : FitsSigned w64 (pos 1)
one_fits = search rules

hundred_fits : FitsSigned w64 (pos 100)
hundred_fits = search rules

caller_wide : (n i : ℕ) → All HasWidth (caller n i).ops
caller_wide n i = All-from_recursion HasWidth (caller n i).ops (tt, (tt, (tt, (tt, (tt, (tt, (tt, (tt, (one_fits, (tt, (tt, (tt, (tt, tt)))))))))))))

lock_count_is : (n : ℕ) → lock_count (generated_program n) ≡ 16
lock_count_is n = length_mapped lock_name 0 16

func_count_is : (n : ℕ) → func_count (generated_program n) ≡ 48
func_count_is n =
    length-append (map (taker n) (from 0 32)) (map (caller n) (from 0 16))
    ∙ ap (λ k. k + length (map (caller n) (from 0 16))) (length_mapped (taker n) 0 32) ∙ ap (λ k. 32 + k) (length_mapped (caller n) 0 16)

thread_count_is : (n : ℕ) → length (generated_program n).threads ≡ 16
thread_count_is n = length_mapped start 0 16

op_count_is : (n : ℕ) → op_count (generated_program n).funcs ≡ 368
unfolding from
op_count_is n = refl

all_funcs : (P : Function → Type 0) (n : ℕ) → ((i : ℕ) → P (taker n i)) → ((i : ℕ) → P (caller n i)) → All P (generated_program n).funcs
all_funcs P n takers callers =
    All-append P (map (taker n) (from 0 32)) (map (caller n) (from 0 16)) (all_mapped P (taker n) 32 (λ i lt. takers i)) (all_mapped P (caller n) 16 (λ i lt. callers i))

pub is_program : (n : ℕ) → IsProgram (generated_program n)
is_program n =
    let p = generated_program n in
    let l = lock_count_is n in
    let f = func_count_is n in
    let t = thread_count_is n in
    let o = op_count_is n in
    record {
      few_locks = omega (arith, l);
      some_funcs = omega (arith, f);
      few_funcs = omega (arith, f);
      few_ops = omega (arith, o);
      some_threads = omega (arith, t);
      few_threads = omega (arith, t);
      lock_names = lock_names;
      names = subst AreNames (sym (names_are n)) func_names_are;
      functions = all_funcs (IsFunction (lock_count p) (func_count p)) n (λ i. taker_fits n i (lock_count p) (func_count p) l) (λ i. caller_fits n i (lock_count p) (func_count p) f);
      starts = all_mapped (λ (s : Start). s.func < func_count p) start 16 (λ i lt. omega (arith, lt, f));
    }

pub is_printable : (n : ℕ) → IsPrintable (generated_program n)
is_printable n = record {
  program = is_program n;
  ops = all_funcs (λ (f : Function). All HasWidth f.ops) n (taker_wide n) (caller_wide n);
  arguments = all_mapped (λ (s : Start). FitsSigned w64 s.argument) start 16 (λ i lt. hundred_fits);
}

-- its text is a program's
pub assembled_again : (n : ℕ) → program_of (program_text (generated_program n)) ≡ Ok (bound (own_names (generated_program n)) (generated_program n))
assembled_again n = text_again (generated_program n) (is_printable n)
