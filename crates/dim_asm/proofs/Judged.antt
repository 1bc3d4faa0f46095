-- A line that stands at its place is judged to say what it spells.
use Rattle.std.proofs.Common.{◌≡◌, ◌≢◌, ◌<◌, ◌≤◌, ◌^◌, ℕ, true, false, List, [], ◌∷◌, length, Some, Result, Ok, arith, refl, ap, ◌∙◌}
use Rattle.std.specs.Prelude.{◌==◌, codes, not, nat_lt, suc, FitsSigned, ℤ, pos, negsuc}
use Rattle.std.specs.Int.{w64}
use Rattle.std.specs.List.{AllByRecursion, list_all}
use Rattle.std.specs.Str.{bytes_eq}
use Rattle.std.specs.Fmt.{decimal, signed_decimal}
use Rattle.std.proofs.lemmas.Fmt.{decimal_nonempty}
use Rattle.std.proofs.lemmas.Bool.{and_parts, not-true, ne_eqb}
use Rattle.std.proofs.lemmas.Bool.Decides.{nat_tests}
use Rattle.std.proofs.lemmas.List.Elements.{All-cons, All-append, All-from_recursion}
use Rattle.dim_text.specs.Cuts.{words_of, line_of, HasNo}
use Rattle.dim_text.specs.Naming.{name_of, is_name_byte, IsName}
use Rattle.dim_text.proofs.Exports.{words_of-line_of, number_of-decimal, signed_of-signed_decimal, HasNo-decimal, HasNo-name}
use Rattle.dim_text.specs.Words.{filled}
use Rattle.dim_asm.specs.declared.fault.AsmKind.{AsmKind}
use Rattle.dim_asm.specs.declared.fault.AsmKind.TheVariants.{Shape}
use Rattle.dim_asm.specs.declared.op.Op.{Op}
use Rattle.dim_asm.specs.declared.op.Op.TheVariants as op
use Rattle.dim_asm.specs.declared.mnemonic.Counting.{Counting}
use Rattle.dim_asm.specs.declared.mnemonic.Counting.TheVariants as counting
use Rattle.dim_asm.specs.declared.mnemonic.Naming.{Naming}
use Rattle.dim_asm.specs.declared.mnemonic.Naming.TheVariants as naming
use Rattle.dim_asm.specs.declared.mnemonic.Mnemonic.TheVariants.{Bare, Counts, Names}
use Rattle.dim_asm.specs.declared.reader.Stage.{Stage}
use Rattle.dim_asm.specs.declared.reader.Stage.TheVariants as stage
use Rattle.dim_asm.specs.Source.{Source, Draft, Ready, Refers, Statement, Head, LockLine, FuncLine, OpLine, EndLine, ThreadLine, Close, draft_count, last_size}
use Rattle.dim_asm.specs.Table.{mnemonic_of, most_of, counted}
use Rattle.dim_asm.specs.Judging.{draft_of, lock_line, func_line, thread_line, op_line, end_line, close_line, after_locks, in_function, after_function, after_thread, judged}
use Rattle.dim_asm.specs.Spelling.{naming_word, op_words, draft_words, spelled}
use Rattle.dim_asm.specs.Grammar.{may_follow, IsReady, IsDraft, HasPlace}

-- ---- bytes that words don't have

-- a byte that no word has: the space and the line feed are such
pub record IsBlank (c : ℕ) : Type 0 where
  pub small : c < 45
  pub other : is_name_byte c ≡ false

line_feed : IsBlank 10
line_feed = record { small = omega arith; other = refl }

space : IsBlank 32
space = record { small = omega arith; other = refl }

-- an upper or lower case word
letters_have_no : (c : ℕ) (word : List ℕ) → c < 45 → list_all (λ b. nat_lt 44 b) word ≡ true → HasNo c word
letters_have_no c word small e = All-from_recursion (λ b. (b == c) ≡ false) word (go word e)
  where
    go : (bs : List ℕ) → list_all (λ b. nat_lt 44 b) bs ≡ true → AllByRecursion (λ b. (b == c) ≡ false) bs
    go [] e = tt
    go (b ∷ bs) e =
        let p = and_parts (nat_lt 44 b) (list_all (λ x. nat_lt 44 x) bs) e in
        let greater : 44 < b = grind (arith, nat_tests) in
        (ne_eqb b c (λ same. omega (arith, same, greater, small)), go bs p.1)

number_has_no : (c n : ℕ) → c < 45 → n < 2 ^ 64 → HasNo c (decimal n)
number_has_no c n small few = HasNo-decimal c n (λ r. omega (arith, small, r.0)) few

signed_has_no : (c : ℕ) (z : ℤ) → c < 45 → FitsSigned w64 z → HasNo c (signed_decimal z)
signed_has_no c (pos n) small fits = number_has_no c n small (omega (arith, fits))
signed_has_no c (negsuc n) small fits =
    All-cons (λ b. (b == c) ≡ false) 45 (decimal (suc n)) (ne_eqb 45 c (λ e. omega (arith, e, small))) (number_has_no c (suc n) small (omega (arith, fits)))

name_has_no : (c : ℕ) (name : List ℕ) → IsBlank c → IsName name → HasNo c name
name_has_no c name b is = HasNo-name c name b.other is

-- a word, and one with a number behind it
one_has_no : (c : ℕ) (word : List ℕ) → IsBlank c → list_all (λ b. nat_lt 44 b) word ≡ true → AllByRecursion (HasNo c) (word ∷ [])
one_has_no c word b e = (letters_have_no c word b.small e, tt)

counted_has_no : (c : ℕ) (word : List ℕ) (n : ℕ) → IsBlank c → list_all (λ b. nat_lt 44 b) word ≡ true → n < 2 ^ 64 → AllByRecursion (HasNo c) (word ∷ decimal n ∷ [])
counted_has_no c word n b e few = (letters_have_no c word b.small e, (number_has_no c n b.small few, tt))

ready_has_no : (c : ℕ) (o : Op) → IsBlank c → IsReady o → AllByRecursion (HasNo c) (op_words o)
ready_has_no c (op.Push n) b h = (letters_have_no c (codes "PUSH") b.small refl, (signed_has_no c n b.small h, tt))
ready_has_no c op.Pop b h = one_has_no c (codes "POP") b refl
ready_has_no c op.Dup b h = one_has_no c (codes "DUP") b refl
ready_has_no c op.Swap b h = one_has_no c (codes "SWAP") b refl
ready_has_no c op.Add b h = one_has_no c (codes "ADD") b refl
ready_has_no c op.Sub b h = one_has_no c (codes "SUB") b refl
ready_has_no c op.Lt b h = one_has_no c (codes "LT") b refl
ready_has_no c op.Eq b h = one_has_no c (codes "EQ") b refl
ready_has_no c (op.Jmp k) b h = counted_has_no c (codes "JMP") k b refl (omega (arith, h))
ready_has_no c (op.Jz k) b h = counted_has_no c (codes "JZ") k b refl (omega (arith, h))
ready_has_no c (op.GetL i) b h = counted_has_no c (codes "GETL") i b refl (omega (arith, h))
ready_has_no c (op.PutL i) b h = counted_has_no c (codes "PUTL") i b refl (omega (arith, h))
ready_has_no c (op.Call f) b h = absurd h
ready_has_no c op.Ret b h = one_has_no c (codes "RET") b refl
ready_has_no c (op.Lock l) b h = absurd h
ready_has_no c op.LockX b h = one_has_no c (codes "LOCKX") b refl
ready_has_no c (op.Unlock l) b h = absurd h
ready_has_no c op.UnlockX b h = one_has_no c (codes "UNLOCKX") b refl
ready_has_no c (op.TryLock l) b h = absurd h
ready_has_no c op.Say b h = one_has_no c (codes "SAY") b refl
ready_has_no c op.Halt b h = one_has_no c (codes "HALT") b refl

naming_has_no : (c : ℕ) (n : Naming) → c < 45 → HasNo c (naming_word n)
naming_has_no c naming.Call small = letters_have_no c (codes "CALL") small refl
naming_has_no c naming.Lock small = letters_have_no c (codes "LOCK") small refl
naming_has_no c naming.Unlock small = letters_have_no c (codes "UNLOCK") small refl
naming_has_no c naming.TryLock small = letters_have_no c (codes "TRYLOCK") small refl

draft_has_no : (c : ℕ) (d : Draft) → IsBlank c → IsDraft d → AllByRecursion (HasNo c) (draft_words d)
draft_has_no c (Ready o) b h = ready_has_no c o b h
draft_has_no c (Refers n name) b h = (naming_has_no c n b.small, (name_has_no c name b h, tt))

lock_has_no : (c : ℕ) (name : List ℕ) → IsBlank c → IsName name → AllByRecursion (HasNo c) (codes "lock" ∷ name ∷ [])
lock_has_no c name b is = (letters_have_no c (codes "lock") b.small refl, (name_has_no c name b is, tt))

func_has_no : (c : ℕ) (name : List ℕ) (locals : ℕ) → IsBlank c → IsName name → locals ≤ 16 → AllByRecursion (HasNo c) (codes "func" ∷ name ∷ decimal locals ∷ [])
func_has_no c name locals b is few = (letters_have_no c (codes "func") b.small refl, (name_has_no c name b is, (number_has_no c locals b.small (omega (arith, few)), tt)))

thread_has_no : (c : ℕ) (func : List ℕ) (argument : ℤ) → IsBlank c → IsName func → FitsSigned w64 argument → AllByRecursion (HasNo c) (codes "thread" ∷ func ∷ signed_decimal argument ∷ [])
thread_has_no c func argument b is fits = (letters_have_no c (codes "thread") b.small refl, (name_has_no c func b is, (signed_has_no c argument b.small fits, tt)))

line_has_no : (words : List (List ℕ)) → AllByRecursion (HasNo 10) words → HasNo 10 (line_of words)
line_has_no [] h = All-from_recursion (λ b. (b == 10) ≡ false) [] tt
line_has_no (word ∷ []) h = h.0
line_has_no (word ∷ next ∷ words) h =
    All-append (λ b. (b == 10) ≡ false) word (32 ∷ line_of (next ∷ words)) h.0 (All-cons (λ b. (b == 10) ≡ false) 32 (line_of (next ∷ words)) refl (line_has_no (next ∷ words) h.1))

plain_has_no : (word : List ℕ) → list_all (λ b. not (b == 10)) word ≡ true → HasNo 10 word
plain_has_no word e = All-from_recursion (λ b. (b == 10) ≡ false) word (go word e)
  where
    go : (bs : List ℕ) → list_all (λ b. not (b == 10)) bs ≡ true → AllByRecursion (λ b. (b == 10) ≡ false) bs
    go [] e = tt
    go (b ∷ bs) e = let p = and_parts (not (b == 10)) (list_all (λ x. not (x == 10)) bs) e in (not-true (b == 10) p.0, go bs p.1)

-- a line that stands at its place is one line
pub one_line : (s : Source) (x : Statement) → HasPlace s x → HasNo 10 (spelled x)
one_line s Head h = plain_has_no (codes "dim program 1") refl
one_line s (LockLine name) h = line_has_no (codes "lock" ∷ name ∷ []) (lock_has_no 10 name line_feed h.0)
one_line s (FuncLine name locals) h = line_has_no (codes "func" ∷ name ∷ decimal locals ∷ []) (func_has_no 10 name locals line_feed h.0 h.1)
one_line s (OpLine d) h = line_has_no (draft_words d) (draft_has_no 10 d line_feed h.0)
one_line s EndLine h = plain_has_no (codes "end") refl
one_line s (ThreadLine func argument) h = line_has_no (codes "thread" ∷ func ∷ signed_decimal argument ∷ []) (thread_has_no 10 func argument line_feed h.0 h.1)
one_line s Close h = plain_has_no (codes "end program") refl

-- ---- words that are taken
filled_number : (n : ℕ) → n < 2 ^ 64 → ◌≡◌ {A = Result (List ℕ) AsmKind} (filled (decimal n) Shape) (Ok (decimal n))
filled_number n small = go (decimal n) (decimal_nonempty n small)
  where
    go : (word : List ℕ) → 0 < length word → ◌≡◌ {A = Result (List ℕ) AsmKind} (filled word Shape) (Ok word)
    go [] h = absurd (omega arith)
    go (c ∷ cs) h = refl

filled_signed : (z : ℤ) → FitsSigned w64 z → ◌≡◌ {A = Result (List ℕ) AsmKind} (filled (signed_decimal z) Shape) (Ok (signed_decimal z))
filled_signed (pos n) fits = filled_number n (omega (arith, fits))
filled_signed (negsuc n) fits = refl

filled_name : (name : List ℕ) → IsName name → ◌≡◌ {A = Result (List ℕ) AsmKind} (filled name Shape) (Ok name)
filled_name [] is = cc
filled_name (c ∷ cs) is = refl

named : (name : List ℕ) → IsName name → name_of name ≡ Some name
unfolding name_of
named name is = rw is refl

-- ---- lines that are taken
lock_taken : (s : Source) (name : List ℕ) → HasPlace s (LockLine name) → after_locks s (codes "lock" ∷ name ∷ []) ≡ Ok (LockLine name)
unfolding after_locks lock_line
lock_taken s name h = rw (filled_name name h.0, ne_eqb (length s.locks) 256 h.1, named name h.0, h.2) refl

func_words : (s : Source) (name : List ℕ) (locals : ℕ) → HasPlace s (FuncLine name locals) → func_line s (name ∷ decimal locals ∷ []) ≡ Ok (FuncLine name locals)
unfolding func_line
func_words s name locals h =
    rw (filled_name name h.0, filled_number locals (omega (arith, h.1)), ne_eqb (length s.funcs) 256 h.2, named name h.0, number_of-decimal 16 locals (omega arith) h.1, h.3) refl

first_func : (s : Source) (name : List ℕ) (locals : ℕ) → HasPlace s (FuncLine name locals) → after_locks s (codes "func" ∷ name ∷ decimal locals ∷ []) ≡ Ok (FuncLine name locals)
unfolding after_locks
first_func s name locals h = func_words s name locals h

later_func : (s : Source) (name : List ℕ) (locals : ℕ) → HasPlace s (FuncLine name locals) → after_function s (codes "func" ∷ name ∷ decimal locals ∷ []) ≡ Ok (FuncLine name locals)
unfolding after_function
later_func s name locals h = func_words s name locals h

thread_words : (s : Source) (func : List ℕ) (argument : ℤ) → HasPlace s (ThreadLine func argument) → thread_line s (func ∷ signed_decimal argument ∷ []) ≡ Ok (ThreadLine func argument)
unfolding thread_line
thread_words s func argument h =
    rw (filled_name func h.0, filled_signed argument h.1, ne_eqb (length s.threads) 32 h.2, named func h.0, signed_of-signed_decimal argument h.1) refl

first_thread : (s : Source) (func : List ℕ) (argument : ℤ) → HasPlace s (ThreadLine func argument) → after_function s (codes "thread" ∷ func ∷ signed_decimal argument ∷ []) ≡ Ok (ThreadLine func argument)
unfolding after_function
first_thread s func argument h = thread_words s func argument h

later_thread : (s : Source) (func : List ℕ) (argument : ℤ) → HasPlace s (ThreadLine func argument) → after_thread s (codes "thread" ∷ func ∷ signed_decimal argument ∷ []) ≡ Ok (ThreadLine func argument)
unfolding after_thread
later_thread s func argument h = thread_words s func argument h

end_taken : (s : Source) → last_size s.funcs ≢ 0 → in_function s (codes "end" ∷ []) ≡ Ok EndLine
unfolding in_function end_line
end_taken s h = rw (ne_eqb (last_size s.funcs) 0 h) refl

close_taken : (s : Source) → after_thread s (codes "end" ∷ codes "program" ∷ []) ≡ Ok Close
unfolding after_thread close_line
close_taken s = refl

-- ---- instructions
bare_taken : (s : Source) (word : List ℕ) (o : Op) → draft_count s.funcs ≢ 65536 → bytes_eq word (codes "end") ≡ false → mnemonic_of word ≡ Some (Bare o) → in_function s (word ∷ []) ≡ Ok (OpLine (Ready o))
unfolding in_function op_line draft_of
bare_taken s word o room other is = rw (other, is, ne_eqb (draft_count s.funcs) 65536 room) refl

push_taken : (s : Source) (n : ℤ) → draft_count s.funcs ≢ 65536 → FitsSigned w64 n → in_function s (codes "PUSH" ∷ signed_decimal n ∷ []) ≡ Ok (OpLine (Ready (op.Push n)))
unfolding in_function op_line draft_of mnemonic_of
push_taken s n room fits = rw (filled_signed n fits, ne_eqb (draft_count s.funcs) 65536 room, signed_of-signed_decimal n fits) refl

counted_taken : (s : Source) (word : List ℕ) (c : Counting) (n : ℕ) → draft_count s.funcs ≢ 65536 → bytes_eq word (codes "end") ≡ false → mnemonic_of word ≡ Some (Counts c) → most_of c < 2 ^ 64 → n ≤ most_of c
    → in_function s (word ∷ decimal n ∷ []) ≡ Ok (OpLine (Ready (counted c n)))
unfolding in_function op_line draft_of
counted_taken s word c n room other is most few =
    rw (other, is, filled_number n (omega (arith, most, few)), ne_eqb (draft_count s.funcs) 65536 room, number_of-decimal (most_of c) n most few) refl

named_taken : (s : Source) (word : List ℕ) (n : Naming) (name : List ℕ) → draft_count s.funcs ≢ 65536 → bytes_eq word (codes "end") ≡ false → mnemonic_of word ≡ Some (Names n) → IsName name
    → in_function s (word ∷ name ∷ []) ≡ Ok (OpLine (Refers n name))
unfolding in_function op_line draft_of
named_taken s word n name room other is h = rw (other, is, filled_name name h, ne_eqb (draft_count s.funcs) 65536 room, named name h) refl

ready_taken : (s : Source) (o : Op) → draft_count s.funcs ≢ 65536 → IsReady o → in_function s (op_words o) ≡ Ok (OpLine (Ready o))
unfolding mnemonic_of
ready_taken s (op.Push n) room h = push_taken s n room h
ready_taken s op.Pop room h = bare_taken s (codes "POP") op.Pop room refl refl
ready_taken s op.Dup room h = bare_taken s (codes "DUP") op.Dup room refl refl
ready_taken s op.Swap room h = bare_taken s (codes "SWAP") op.Swap room refl refl
ready_taken s op.Add room h = bare_taken s (codes "ADD") op.Add room refl refl
ready_taken s op.Sub room h = bare_taken s (codes "SUB") op.Sub room refl refl
ready_taken s op.Lt room h = bare_taken s (codes "LT") op.Lt room refl refl
ready_taken s op.Eq room h = bare_taken s (codes "EQ") op.Eq room refl refl
ready_taken s (op.Jmp k) room h = counted_taken s (codes "JMP") counting.Jmp k room refl refl (omega arith) h
ready_taken s (op.Jz k) room h = counted_taken s (codes "JZ") counting.Jz k room refl refl (omega arith) h
ready_taken s (op.GetL i) room h = counted_taken s (codes "GETL") counting.GetL i room refl refl (omega arith) h
ready_taken s (op.PutL i) room h = counted_taken s (codes "PUTL") counting.PutL i room refl refl (omega arith) h
ready_taken s (op.Call f) room h = absurd h
ready_taken s op.Ret room h = bare_taken s (codes "RET") op.Ret room refl refl
ready_taken s (op.Lock l) room h = absurd h
ready_taken s op.LockX room h = bare_taken s (codes "LOCKX") op.LockX room refl refl
ready_taken s (op.Unlock l) room h = absurd h
ready_taken s op.UnlockX room h = bare_taken s (codes "UNLOCKX") op.UnlockX room refl refl
ready_taken s (op.TryLock l) room h = absurd h
ready_taken s op.Say room h = bare_taken s (codes "SAY") op.Say room refl refl
ready_taken s op.Halt room h = bare_taken s (codes "HALT") op.Halt room refl refl

draft_taken : (s : Source) (d : Draft) → draft_count s.funcs ≢ 65536 → IsDraft d → in_function s (draft_words d) ≡ Ok (OpLine d)
unfolding mnemonic_of
draft_taken s (Ready o) room h = ready_taken s o room h
draft_taken s (Refers naming.Call name) room h = named_taken s (codes "CALL") naming.Call name room refl refl h
draft_taken s (Refers naming.Lock name) room h = named_taken s (codes "LOCK") naming.Lock name room refl refl h
draft_taken s (Refers naming.Unlock name) room h = named_taken s (codes "UNLOCK") naming.Unlock name room refl refl h
draft_taken s (Refers naming.TryLock name) room h = named_taken s (codes "TRYLOCK") naming.TryLock name room refl refl h

-- ---- the words of a line
cut : (words : List (List ℕ)) → 1 ≤ length words → AllByRecursion (HasNo 32) words → words_of (line_of words) ≡ words
cut [] some h = absurd (omega arith)
cut (word ∷ words) some h = words_of-line_of word words h

draft_some : (d : Draft) → 1 ≤ length (draft_words d)
draft_some (Ready op.Pop) = omega arith
draft_some (Ready _) = omega arith
draft_some (Refers n name) = omega arith

draft_cut : (d : Draft) → IsDraft d → words_of (line_of (draft_words d)) ≡ draft_words d
draft_cut d h = cut (draft_words d) (draft_some d) (draft_has_no 32 d space h)

lock_cut : (name : List ℕ) → IsName name → words_of (spelled (LockLine name)) ≡ codes "lock" ∷ name ∷ []
lock_cut name is = cut (codes "lock" ∷ name ∷ []) (omega arith) (lock_has_no 32 name space is)

func_cut : (name : List ℕ) (locals : ℕ) → IsName name → locals ≤ 16 → words_of (spelled (FuncLine name locals)) ≡ codes "func" ∷ name ∷ decimal locals ∷ []
func_cut name locals is few = cut (codes "func" ∷ name ∷ decimal locals ∷ []) (omega arith) (func_has_no 32 name locals space is few)

thread_cut : (func : List ℕ) (argument : ℤ) → IsName func → FitsSigned w64 argument → words_of (spelled (ThreadLine func argument)) ≡ codes "thread" ∷ func ∷ signed_decimal argument ∷ []
thread_cut func argument is fits = cut (codes "thread" ∷ func ∷ signed_decimal argument ∷ []) (omega arith) (thread_has_no 32 func argument space is fits)

-- what is spelled at its place is judged so
pub placed_judged : (at : Stage) (s : Source) (x : Statement) → may_follow at x ≡ true → HasPlace s x → judged at s (spelled x) ≡ Ok x
unfolding judged
placed_judged stage.Head s Head f h = refl
placed_judged stage.Locks s (LockLine name) f h = ap (after_locks s) (lock_cut name h.0) ∙ lock_taken s name h
placed_judged stage.Locks s (FuncLine name locals) f h = ap (after_locks s) (func_cut name locals h.0 h.1) ∙ first_func s name locals h
placed_judged stage.Function s (OpLine d) f h = ap (in_function s) (draft_cut d h.0) ∙ draft_taken s d h.1 h.0
placed_judged stage.Function s EndLine f h = end_taken s h
placed_judged stage.Functions s (FuncLine name locals) f h = ap (after_function s) (func_cut name locals h.0 h.1) ∙ later_func s name locals h
placed_judged stage.Functions s (ThreadLine func argument) f h = ap (after_function s) (thread_cut func argument h.0 h.1) ∙ first_thread s func argument h
placed_judged stage.Threads s (ThreadLine func argument) f h = ap (after_thread s) (thread_cut func argument h.0 h.1) ∙ later_thread s func argument h
placed_judged stage.Threads s Close f h = close_taken s
placed_judged _ s _ f h = cc
