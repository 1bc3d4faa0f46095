-- What is known of a line that has been judged to stand at its place.
use Rattle.std.proofs.Common.{◌≡◌, ◌<◌, ◌≤◌, ◌-◌, ◌^◌, inl, inr, ℕ, true, cond, List, [], ◌∷◌, length, Option, Some, None, Ok, arith, refl, sym, ap, ◌∙◌, subst}
use Rattle.std.proofs.lemmas.Bool.{cases_Bool}
use Rattle.std.specs.Prelude.{◌==◌, codes, find, FitsSigned, ℤ, pos, negsuc, zero, suc, drop, slice_index, option_and_then}
use Rattle.std.specs.Int.{w64}
use Rattle.std.specs.Option.{option_map}
use Rattle.std.specs.List.{AllByRecursion}
use Rattle.std.specs.Str.{bytes_eq}
use Rattle.std.specs.Fmt.{decimal, signed_decimal}
use Rattle.std.proofs.lemmas.Bool.{eqb-false}
use Rattle.std.proofs.lemmas.Slice.Eq.{bytes_eq-Decides}
use Rattle.dim_text.specs.Cuts.{words_of, line_of}
use Rattle.dim_text.specs.Numerals.{number_of, signed_of, below_zero}
use Rattle.dim_text.specs.Naming.{name_of, is_name, IsName}
use Rattle.dim_text.specs.Reading.{◌>>=◌, or_else}
use Rattle.dim_text.proofs.Exports.{line_of-words_of, number_of-Some, signed_of-Some, bind_ok, or_else_ok, unless_ok, chosen, one_word_ok, two_words_ok}
use Rattle.dim_text.specs.Words.{unless, one_word, two_words}
use Rattle.dim_asm.specs.declared.op.Op.TheVariants as op
use Rattle.dim_asm.specs.declared.fault.AsmKind.TheVariants.{Word, Number, Name, Double, Shape, Limit}
use Rattle.dim_asm.specs.declared.mnemonic.Counting.{Counting}
use Rattle.dim_asm.specs.declared.mnemonic.Counting.TheVariants as counting
use Rattle.dim_asm.specs.declared.mnemonic.Mnemonic.{Mnemonic}
use Rattle.dim_asm.specs.declared.mnemonic.Mnemonic.TheVariants.{Bare, Push, Counts, Names}
use Rattle.dim_asm.specs.declared.reader.Stage.{Stage}
use Rattle.dim_asm.specs.declared.reader.Stage.TheVariants as stage
use Rattle.dim_asm.specs.Code.{has_name}
use Rattle.dim_asm.specs.Source.{Source, Draft, Ready, Refers, Statement, Head, LockLine, FuncLine, OpLine, EndLine, ThreadLine, Close, names_of, draft_count, last_size}
use Rattle.dim_asm.specs.Table.{rows, mnemonic_of, most_of, counted}
use Rattle.dim_asm.specs.Judging.{no_word, argument_word, draft_of, lock_line, func_line, thread_line, op_line, end_line, close_line, after_locks, in_function, after_function, after_thread, judged, head}
use Rattle.dim_asm.specs.Spelling.{naming_word, op_words, draft_words, spelled}
use Rattle.dim_asm.specs.Grammar.{may_follow, IsReady, IsDraft, HasPlace}

pub same_bytes : (a b : List ℕ) → bytes_eq a b ≡ true → a ≡ b
same_bytes a b e = (bytes_eq-Decides a b).0 e

-- ---- words
both_words : (a b v w : List ℕ) → a ≡ v → b ≡ w → a ∷ b ∷ [] ≡ v ∷ w ∷ []
both_words a b v w e f = rw (e, f) refl

no_word_ok : (words : List (List ℕ)) (u : Unit {0}) → no_word words ≡ Ok u → words ≡ []
no_word_ok [] u e = refl
no_word_ok (word ∷ words) u e = cc

one_only : (words : List (List ℕ)) (w v : List ℕ) → one_word words Shape ≡ Ok w → w ≡ v → words ≡ v ∷ []
one_only words w v e f = one_word_ok words w Shape e ∙ ap (λ x. x ∷ []) f

two_only : (words : List (List ℕ)) (p : List ℕ × List ℕ) (v w : List ℕ) → two_words words Shape ≡ Ok p → p.0 ≡ v → p.1 ≡ w → words ≡ v ∷ w ∷ []
two_only words p v w e f g = two_words_ok words p Shape e ∙ both_words p.0 p.1 v w f g

spelled_line : (words ws : List (List ℕ)) → words ≡ ws → line_of words ≡ line_of ws
spelled_line words ws e = ap line_of e

-- the line of these words behind a first one
line_with : (first : List ℕ) (words ws : List (List ℕ)) → words ≡ ws → line_of (first ∷ words) ≡ line_of (first ∷ ws)
line_with first words ws e = ap (λ x. line_of (first ∷ x)) e

name_ok : (word name : List ℕ) → name_of word ≡ Some name → (word ≡ name) × IsName name
unfolding name_of
name_ok word name e =
    elim (chosen (is_name word) _ _ _ e) [
      | inl is ↦ let same : word ≡ name = cc (is.1) in (same, subst IsName same is.0)
      | inr other ↦ cc (other.1)
    ]

-- ---- instruction words

-- how a row of the table is spelled
abbrev pub Spelled : List ℕ → Mnemonic → Type 0
Spelled word (Bare o) = (op_words o ≡ word ∷ []) × IsReady o
Spelled word Push = word ≡ codes "PUSH"
Spelled word (Counts c) = (n : ℕ) → op_words (counted c n) ≡ word ∷ decimal n ∷ []
Spelled word (Names n) = word ≡ naming_word n

rows_spelled : AllByRecursion (λ (row : List ℕ × Mnemonic). Spelled row.0 row.1) rows
rows_spelled = (refl, ((refl, tt), ((refl, tt), ((refl, tt), ((refl, tt), ((refl, tt), ((refl, tt), ((refl, tt), ((λ n. refl), ((λ n. refl), ((λ n. refl), ((λ n. refl), (refl, ((refl, tt), (refl, ((refl, tt), (refl, ((refl, tt), (refl, ((refl, tt), ((refl, tt), tt)))))))))))))))))))))

looked_up : (word : List ℕ) (table : List (List ℕ × Mnemonic)) (m : Mnemonic) → AllByRecursion (λ (row : List ℕ × Mnemonic). Spelled row.0 row.1) table
    → option_map (λ row. row.1) (find (λ row. bytes_eq word row.0) table) ≡ Some m → Spelled word m
looked_up word [] m all e = cc
looked_up word (row ∷ table) m all e =
    elim (cases_Bool (bytes_eq word row.0)) [
      | inl here ↦
          let is : ◌≡◌ {A = Option Mnemonic} (Some row.1) (Some m) = sym (ap (λ b. option_map (λ (r : List ℕ × Mnemonic). r.1) (cond b (Some row) (find (λ r. bytes_eq word r.0) table))) here) ∙ e in
          let same : row.1 ≡ m = cc (is) in
          subst (λ w. Spelled w m) (sym (same_bytes word row.0 here)) (subst (Spelled row.0) same all.0)
      | inr there ↦
          looked_up word table m all.1 (sym (ap (λ b. option_map (λ (r : List ℕ × Mnemonic). r.1) (cond b (Some row) (find (λ r. bytes_eq word r.0) table))) there) ∙ e)
    ]

mnemonic_spelled : (word : List ℕ) (m : Mnemonic) → mnemonic_of word ≡ Some m → Spelled word m
unfolding mnemonic_of
mnemonic_spelled word m e = looked_up word rows m rows_spelled e

-- a number behind an instruction word is of its range
counted_ready : (c : Counting) (n : ℕ) → n ≤ most_of c → IsReady (counted c n)
counted_ready counting.Jmp n h = h
counted_ready counting.Jz n h = h
counted_ready counting.GetL n h = h
counted_ready counting.PutL n h = h

most_small : (c : Counting) → most_of c < 2 ^ 64
most_small counting.Jmp = omega arith
most_small counting.Jz = omega arith
most_small counting.GetL = omega arith
most_small counting.PutL = omega arith

positive_fits : (o : Option ℕ) (z : ℤ) → ((n : ℕ) → o ≡ Some n → n ≤ 2 ^ 63 - 1) → option_map pos o ≡ Some z → FitsSigned w64 z
positive_fits (Some n) z small e = let same : pos n ≡ z = cc (e) in subst (FitsSigned w64) same (omega (arith, small n refl))
positive_fits None z small e = cc (e)

negative_fits : (o : Option ℕ) (z : ℤ) → ((n : ℕ) → o ≡ Some n → n ≤ 2 ^ 63) → option_and_then below_zero o ≡ Some z → FitsSigned w64 z
negative_fits (Some zero) z small e = cc (e)
negative_fits (Some (suc n)) z small e = let same : negsuc n ≡ z = cc (e) in subst (FitsSigned w64) same (omega (arith, small (suc n) refl))
negative_fits None z small e = cc (e)

signed_fits : (word : List ℕ) (z : ℤ) → signed_of word ≡ Some z → FitsSigned w64 z
unfolding signed_of
signed_fits word z e =
    elim (chosen (slice_index word 0 == 45) _ _ _ e) [
      | inl minus ↦ negative_fits (number_of (2 ^ 63) (drop 1 word)) z (λ n is. (number_of-Some (2 ^ 63) n (drop 1 word) (omega arith) is).0) minus.1
      | inr plain ↦ positive_fits (number_of (2 ^ 63 - 1) word) z (λ n is. (number_of-Some (2 ^ 63 - 1) n word (omega arith) is).0) plain.1
    ]

-- an instruction, by its words
draft_spelled : (first : List ℕ) (words : List (List ℕ)) (m : Mnemonic) (word : List ℕ) (d : Draft) → mnemonic_of first ≡ Some m → argument_word m words ≡ Ok word → draft_of m word ≡ Ok d
    → (first ∷ words ≡ draft_words d) × IsDraft d
unfolding draft_of
draft_spelled first words (Bare o) word d is argument e =
    let row = mnemonic_spelled first (Bare o) is in
    let parts = bind_ok (no_word words) (λ _. Ok []) word argument in
    let none = no_word_ok words parts.0 parts.1 in
    let same : Ready o ≡ d = cc (e) in
    subst (λ x. (first ∷ words ≡ draft_words x) × IsDraft x) same (ap (λ ws. first ∷ ws) none ∙ sym row.0, row.1)
draft_spelled first words Push word d is argument e =
    let row = mnemonic_spelled first Push is in
    let parts = bind_ok (or_else (signed_of word) Number) (λ n. Ok (Ready (op.Push n))) d e in
    let number = or_else_ok (signed_of word) Number parts.0 parts.1 in
    let same : Ready (op.Push parts.0) ≡ d = cc (parts.2) in
    subst (λ x. (first ∷ words ≡ draft_words x) × IsDraft x) same (
      ap (λ ws. first ∷ ws) (one_word_ok words word Shape argument) ∙ both_words first word (codes "PUSH") (signed_decimal parts.0) row (signed_of-Some word parts.0 number),
      signed_fits word parts.0 number,
    )
draft_spelled first words (Counts c) word d is argument e =
    let row = mnemonic_spelled first (Counts c) is in
    let parts = bind_ok (or_else (number_of (most_of c) word) Number) (λ n. Ok (Ready (counted c n))) d e in
    let number = or_else_ok (number_of (most_of c) word) Number parts.0 parts.1 in
    let found = number_of-Some (most_of c) parts.0 word (most_small c) number in
    let same : Ready (counted c parts.0) ≡ d = cc (parts.2) in
    subst (λ x. (first ∷ words ≡ draft_words x) × IsDraft x) same (
      ap (λ ws. first ∷ ws) (one_word_ok words word Shape argument) ∙ ap (λ w. first ∷ w ∷ []) found.1 ∙ sym (row parts.0),
      counted_ready c parts.0 found.0,
    )
draft_spelled first words (Names n) word d is argument e =
    let row = mnemonic_spelled first (Names n) is in
    let parts = bind_ok (or_else (name_of word) Name) (λ name. Ok (Refers n name)) d e in
    let name = name_ok word parts.0 (or_else_ok (name_of word) Name parts.0 parts.1) in
    let same : Refers n parts.0 ≡ d = cc (parts.2) in
    subst (λ x. (first ∷ words ≡ draft_words x) × IsDraft x) same (
      ap (λ ws. first ∷ ws) (one_word_ok words word Shape argument) ∙ both_words first word (naming_word n) parts.0 row name.0,
      name.1,
    )

-- ---- lines

-- a line at its place: the words that it's made of, and what holds there
abbrev Stands : Source → List (List ℕ) → Statement → Type 0
Stands s words x = (line_of words ≡ spelled x) × HasPlace s x

lock_stands : (s : Source) (words : List (List ℕ)) (x : Statement) → lock_line s words ≡ Ok x → (name : List ℕ) × (LockLine name ≡ x) × Stands s (codes "lock" ∷ words) (LockLine name)
unfolding lock_line
lock_stands s words x e =
    let a = bind_ok (one_word words Shape) (λ word. unless (length s.locks == 256) Limit >>= λ _. or_else (name_of word) Name >>= λ name. unless (has_name s.locks name) Double >>= λ _. Ok (LockLine name)) x e in
    let b = bind_ok (unless (length s.locks == 256) Limit) (λ _. or_else (name_of a.0) Name >>= λ name. unless (has_name s.locks name) Double >>= λ _. Ok (LockLine name)) x a.2 in
    let c = bind_ok (or_else (name_of a.0) Name) (λ name. unless (has_name s.locks name) Double >>= λ _. Ok (LockLine name)) x b.2 in
    let d = bind_ok (unless (has_name s.locks c.0) Double) (λ _. Ok (LockLine c.0)) x c.2 in
    let name = name_ok a.0 c.0 (or_else_ok (name_of a.0) Name c.0 c.1) in
    let only : words ≡ c.0 ∷ [] = one_only words a.0 c.0 a.1 name.0 in (
      c.0,
      cc (d.2),
      (line_with (codes "lock") words (c.0 ∷ []) only, (name.1, eqb-false (length s.locks) 256 (unless_ok (length s.locks == 256) Limit b.0 b.1), unless_ok (has_name s.locks c.0) Double d.0 d.1)),
    )

func_stands : (s : Source) (words : List (List ℕ)) (x : Statement) → func_line s words ≡ Ok x → (name : List ℕ) × (locals : ℕ) × (FuncLine name locals ≡ x) × Stands s (codes "func" ∷ words) (FuncLine name locals)
unfolding func_line
func_stands s words x e =
    let a = bind_ok (two_words words Shape) (λ pair. unless (length s.funcs == 256) Limit >>= λ _. or_else (name_of pair.0) Name >>= λ name. or_else (number_of 16 pair.1) Number >>= λ locals. unless (has_name (names_of s) name) Double >>= λ _. Ok (FuncLine name locals)) x e in
    let b = bind_ok (unless (length s.funcs == 256) Limit) (λ _. or_else (name_of a.0.0) Name >>= λ name. or_else (number_of 16 a.0.1) Number >>= λ locals. unless (has_name (names_of s) name) Double >>= λ _. Ok (FuncLine name locals)) x a.2 in
    let c = bind_ok (or_else (name_of a.0.0) Name) (λ name. or_else (number_of 16 a.0.1) Number >>= λ locals. unless (has_name (names_of s) name) Double >>= λ _. Ok (FuncLine name locals)) x b.2 in
    let d = bind_ok (or_else (number_of 16 a.0.1) Number) (λ locals. unless (has_name (names_of s) c.0) Double >>= λ _. Ok (FuncLine c.0 locals)) x c.2 in
    let f = bind_ok (unless (has_name (names_of s) c.0) Double) (λ _. Ok (FuncLine c.0 d.0)) x d.2 in
    let name = name_ok a.0.0 c.0 (or_else_ok (name_of a.0.0) Name c.0 c.1) in
    let number = number_of-Some 16 d.0 a.0.1 (omega arith) (or_else_ok (number_of 16 a.0.1) Number d.0 d.1) in
    let only : words ≡ c.0 ∷ decimal d.0 ∷ [] = two_only words a.0 c.0 (decimal d.0) a.1 name.0 number.1 in (
      c.0,
      d.0,
      cc (f.2),
      (
        line_with (codes "func") words (c.0 ∷ decimal d.0 ∷ []) only,
        (name.1, number.0, eqb-false (length s.funcs) 256 (unless_ok (length s.funcs == 256) Limit b.0 b.1), unless_ok (has_name (names_of s) c.0) Double f.0 f.1),
      ),
    )

thread_stands : (s : Source) (words : List (List ℕ)) (x : Statement) → thread_line s words ≡ Ok x → (func : List ℕ) × (argument : ℤ) × (ThreadLine func argument ≡ x) × Stands s (codes "thread" ∷ words) (ThreadLine func argument)
unfolding thread_line
thread_stands s words x e =
    let a = bind_ok (two_words words Shape) (λ pair. unless (length s.threads == 32) Limit >>= λ _. or_else (name_of pair.0) Name >>= λ func. or_else (signed_of pair.1) Number >>= λ argument. Ok (ThreadLine func argument)) x e in
    let b = bind_ok (unless (length s.threads == 32) Limit) (λ _. or_else (name_of a.0.0) Name >>= λ func. or_else (signed_of a.0.1) Number >>= λ argument. Ok (ThreadLine func argument)) x a.2 in
    let c = bind_ok (or_else (name_of a.0.0) Name) (λ func. or_else (signed_of a.0.1) Number >>= λ argument. Ok (ThreadLine func argument)) x b.2 in
    let d = bind_ok (or_else (signed_of a.0.1) Number) (λ argument. Ok (ThreadLine c.0 argument)) x c.2 in
    let name = name_ok a.0.0 c.0 (or_else_ok (name_of a.0.0) Name c.0 c.1) in
    let number = or_else_ok (signed_of a.0.1) Number d.0 d.1 in
    let only : words ≡ c.0 ∷ signed_decimal d.0 ∷ [] = two_only words a.0 c.0 (signed_decimal d.0) a.1 name.0 (signed_of-Some a.0.1 d.0 number) in (
      c.0,
      d.0,
      cc (d.2),
      (line_with (codes "thread") words (c.0 ∷ signed_decimal d.0 ∷ []) only, (name.1, signed_fits a.0.1 d.0 number, eqb-false (length s.threads) 32 (unless_ok (length s.threads == 32) Limit b.0 b.1))),
    )

op_stands : (s : Source) (first : List ℕ) (words : List (List ℕ)) (x : Statement) → op_line s first words ≡ Ok x → (d : Draft) × (OpLine d ≡ x) × Stands s (first ∷ words) (OpLine d)
unfolding op_line
op_stands s first words x e =
    let a = bind_ok (or_else (mnemonic_of first) Word) (λ m. argument_word m words >>= λ word. unless (draft_count s.funcs == 65536) Limit >>= λ _. draft_of m word >>= λ d. Ok (OpLine d)) x e in
    let b = bind_ok (argument_word a.0 words) (λ word. unless (draft_count s.funcs == 65536) Limit >>= λ _. draft_of a.0 word >>= λ d. Ok (OpLine d)) x a.2 in
    let c = bind_ok (unless (draft_count s.funcs == 65536) Limit) (λ _. draft_of a.0 b.0 >>= λ d. Ok (OpLine d)) x b.2 in
    let d = bind_ok (draft_of a.0 b.0) (λ d. Ok (OpLine d)) x c.2 in
    let draft = draft_spelled first words a.0 b.0 d.0 (or_else_ok (mnemonic_of first) Word a.0 a.1) b.1 d.1 in
    (d.0, cc (d.2), (spelled_line (first ∷ words) (draft_words d.0) draft.0, (draft.1, eqb-false (draft_count s.funcs) 65536 (unless_ok (draft_count s.funcs == 65536) Limit c.0 c.1))))

end_stands : (s : Source) (words : List (List ℕ)) (x : Statement) → end_line s words ≡ Ok x → (EndLine ≡ x) × Stands s (codes "end" ∷ words) EndLine
unfolding end_line
end_stands s words x e =
    let a = bind_ok (no_word words) (λ _. unless (last_size s.funcs == 0) Shape >>= λ _. Ok EndLine) x e in
    let b = bind_ok (unless (last_size s.funcs == 0) Shape) (λ _. Ok EndLine) x a.2 in
    (cc (b.2), (ap (λ ws. line_of (codes "end" ∷ ws)) (no_word_ok words a.0 a.1), eqb-false (last_size s.funcs) 0 (unless_ok (last_size s.funcs == 0) Shape b.0 b.1)))

close_stands : (s : Source) (words : List (List ℕ)) (x : Statement) → close_line words ≡ Ok x → (Close ≡ x) × Stands s (codes "end" ∷ words) Close
unfolding close_line
close_stands s [] x e = cc (e)
close_stands s (word ∷ []) x e =
    elim (chosen (bytes_eq word (codes "program")) _ _ _ e) [
      | inl is ↦ (cc (is.1), (ap (λ w. line_of (codes "end" ∷ w ∷ [])) (same_bytes word (codes "program") is.0), tt))
      | inr other ↦ cc (other.1)
    ]
close_stands s (word ∷ next ∷ words) x e = cc (e)

-- a line that stands at its place
pub record Placed (at : Stage) (s : Source) (line : List ℕ) (x : Statement) : Type 0 where
  pub follows : may_follow at x ≡ true
  pub place : HasPlace s x
  pub text : line ≡ spelled x

placed : (at : Stage) (s : Source) (line : List ℕ) (first : List ℕ) (words : List (List ℕ)) (x y : Statement) → words_of line ≡ first ∷ words → may_follow at y ≡ true → y ≡ x → Stands s (first ∷ words) y → Placed at s line x
placed at s line first words x y is follows same h =
    subst (Placed at s line) same (record {
      follows = follows;
      place = h.1;
      text = sym (line_of-words_of line) ∙ ap line_of is ∙ h.0;
    })

-- the same where the first word was compared
opened : (at : Stage) (s : Source) (line : List ℕ) (first word : List ℕ) (words : List (List ℕ)) (x y : Statement) → words_of line ≡ first ∷ words → bytes_eq first word ≡ true → may_follow at y ≡ true → y ≡ x
    → Stands s (word ∷ words) y → Placed at s line x
opened at s line first word words x y is same follows made h =
    placed at s line word words x y (is ∙ ap (λ w. w ∷ words) (same_bytes first word same)) follows made h

in_locks : (s : Source) (line : List ℕ) (words : List (List ℕ)) (x : Statement) → words_of line ≡ words → after_locks s words ≡ Ok x → Placed stage.Locks s line x
unfolding after_locks
in_locks s line [] x is e = cc (e)
in_locks s line (first ∷ words) x is e =
    elim (chosen (bytes_eq first (codes "lock")) _ _ _ e) [
      | inl lock ↦
          let h = lock_stands s words x lock.1 in
          opened stage.Locks s line first (codes "lock") words x (LockLine h.0) is lock.0 refl h.1 h.2
      | inr other ↦
          elim (chosen (bytes_eq first (codes "func")) _ _ _ other.1) [
            | inl func ↦
                let h = func_stands s words x func.1 in
                opened stage.Locks s line first (codes "func") words x (FuncLine h.0 h.1) is func.0 refl h.2 h.3
            | inr none ↦ cc (none.1)
          ]
    ]

in_body : (s : Source) (line : List ℕ) (words : List (List ℕ)) (x : Statement) → words_of line ≡ words → in_function s words ≡ Ok x → Placed stage.Function s line x
unfolding in_function
in_body s line [] x is e = cc (e)
in_body s line (first ∷ words) x is e =
    elim (chosen (bytes_eq first (codes "end")) _ _ _ e) [
      | inl ends ↦
          let h = end_stands s words x ends.1 in
          opened stage.Function s line first (codes "end") words x EndLine is ends.0 refl h.0 h.1
      | inr other ↦
          let h = op_stands s first words x other.1 in
          placed stage.Function s line first words x (OpLine h.0) is refl h.1 h.2
    ]

in_functions : (s : Source) (line : List ℕ) (words : List (List ℕ)) (x : Statement) → words_of line ≡ words → after_function s words ≡ Ok x → Placed stage.Functions s line x
unfolding after_function
in_functions s line [] x is e = cc (e)
in_functions s line (first ∷ words) x is e =
    elim (chosen (bytes_eq first (codes "func")) _ _ _ e) [
      | inl func ↦
          let h = func_stands s words x func.1 in
          opened stage.Functions s line first (codes "func") words x (FuncLine h.0 h.1) is func.0 refl h.2 h.3
      | inr other ↦
          elim (chosen (bytes_eq first (codes "thread")) _ _ _ other.1) [
            | inl thread ↦
                let h = thread_stands s words x thread.1 in
                opened stage.Functions s line first (codes "thread") words x (ThreadLine h.0 h.1) is thread.0 refl h.2 h.3
            | inr none ↦ cc (none.1)
          ]
    ]

in_threads : (s : Source) (line : List ℕ) (words : List (List ℕ)) (x : Statement) → words_of line ≡ words → after_thread s words ≡ Ok x → Placed stage.Threads s line x
unfolding after_thread
in_threads s line [] x is e = cc (e)
in_threads s line (first ∷ words) x is e =
    elim (chosen (bytes_eq first (codes "thread")) _ _ _ e) [
      | inl thread ↦
          let h = thread_stands s words x thread.1 in
          opened stage.Threads s line first (codes "thread") words x (ThreadLine h.0 h.1) is thread.0 refl h.2 h.3
      | inr other ↦
          elim (chosen (bytes_eq first (codes "end")) _ _ _ other.1) [
            | inl ends ↦
                let h = close_stands s words x ends.1 in
                opened stage.Threads s line first (codes "end") words x Close is ends.0 refl h.0 h.1
            | inr none ↦ cc (none.1)
          ]
    ]

-- a line that is taken stands at its place, and is spelled so
pub judged_placed : (at : Stage) (s : Source) (line : List ℕ) (x : Statement) → judged at s line ≡ Ok x → Placed at s line x
unfolding judged
judged_placed stage.Head s line x e =
    elim (chosen (bytes_eq line head) _ _ _ e) [
      | inl is ↦
          let same : Head ≡ x = cc (is.1) in
          subst (Placed stage.Head s line) same (record { follows = refl; place = tt; text = same_bytes line head is.0 })
      | inr other ↦ cc (other.1)
    ]
judged_placed stage.Locks s line x e = in_locks s line (words_of line) x refl e
judged_placed stage.Function s line x e = in_body s line (words_of line) x refl e
judged_placed stage.Functions s line x e = in_functions s line (words_of line) x refl e
judged_placed stage.Threads s line x e = in_threads s line (words_of line) x refl e
judged_placed stage.Closed s line x e = cc (e)
