-- The text of a trace of one entry.
use Rattle.std.proofs.Common.{◌≡◌, ℕ, ◌+◌, ap, sym, ◌∙◌, arith, List, [], ◌∷◌, ◌++◌, length, append_assoc, take, drop}
use Rattle.std.specs.Prelude.{codes}
use Rattle.std.specs.Fmt.{digits}
use Rattle.std.proofs.lemmas.List.{length-append, take_at}
use Rattle.dim_asm.specs.Code.{Code}
use Rattle.dim_rag.specs.declared.entry.Entry.{Entry}
use Rattle.dim_trace.specs.Text.{trace_text}
use Rattle.dim_picture.specs.Lines.{line_of}

pub one_line : (p : Code) (names : List (List ℕ)) (e : Entry)
    → trace_text p names 1 1 (e ∷ []) ≡ codes "dim trace 1\nsettings 1 1\n" ++ (line_of p names e ++ codes "\nend 1\n")
unfolding trace_text digits
one_line p names e = ap (λ (t : List ℕ). codes "dim trace 1\nsettings 1 1\n" ++ t) (append_assoc (line_of p names e) (10 ∷ []) (codes "end 1\n"))

-- how long it is, and the entry's line in it
pub one_length : (p : Code) (names : List (List ℕ)) (e : Entry) (text : List ℕ) → text ≡ trace_text p names 1 1 (e ∷ []) → length text ≡ 25 + (length (line_of p names e) + 7)
one_length p names e text is = ap length (is ∙ one_line p names e) ∙ (let n = length-append (line_of p names e) (codes "\nend 1\n") in omega (arith, n))

pub one_part : (p : Code) (names : List (List ℕ)) (e : Entry) (text : List ℕ) (n : ℕ) → text ≡ trace_text p names 1 1 (e ∷ []) → n ≡ length (line_of p names e) → take n (drop 25 text) ≡ line_of p names e
one_part p names e text n is count = ap (λ (t : List ℕ). take n (drop 25 t)) (is ∙ one_line p names e) ∙ take_at (line_of p names e) (codes "\nend 1\n") n (sym count)

pub text_is : (p : Code) (names : List (List ℕ)) (e : Entry) (bytes text : List ℕ) (fuel depth : ℕ) (entries : List Entry)
    → bytes ≡ text → text ≡ trace_text p names fuel depth entries → fuel ≡ 1 → depth ≡ 1 → entries ≡ e ∷ []
    → bytes ≡ trace_text p names 1 1 (e ∷ [])
text_is p names e bytes text fuel depth entries same spelled of_fuel of_depth of_entries = same ∙ spelled ∙ (λ i. trace_text p names (of_fuel i) (of_depth i) (of_entries i))
