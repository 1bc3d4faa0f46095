-- Linking comes to the first line that can't be linked.
use Rattle.std.proofs.Common.{◌≡◌, ◌+◌, ℕ, List, [], ◌∷◌, length, Result, Ok, Err, refl, sym, ap₂, ◌∙◌}
use Rattle.std.specs.Prelude.{Option, is_some}
use Rattle.std.specs.List.{find}
use Rattle.std.specs.Option.{option_or}
use Rattle.std.proofs.lemmas.List.Folds.{find-append}
use Rattle.dim_text.specs.Reading.{◌>>=◌, in_line}
use Rattle.dim_asm.specs.declared.fault.AsmKind.{AsmKind}
use Rattle.dim_asm.specs.declared.fault.AsmFault.{AsmFault}
use Rattle.dim_asm.specs.Faults.{fault}
use Rattle.dim_asm.specs.Linking.{Tables, tables_of, first_function, first_thread, link_draft, link_start, each_line, link_function, link_functions, link}
use Rattle.dim_asm.specs.Places.{Judgement, fault_in, judged_lines, judged_functions, judgements, told}
use Rattle.dim_asm.specs.Source.{Source, DraftFunction}

abbrev pub first : List Judgement → Option Judgement
first js = find (λ j. is_some j.fault) js

-- a result that goes on, and what is told then
abbrev on : {A B : Type 0} → (r : Result A AsmFault) → (A → Result B AsmFault) → Option Judgement → Type 0
on r next rest = told (r >>= next) ≡ option_or (told r) rest

goes_on : {A B : Type 0} → (r : Result A AsmFault) (next : A → Result B AsmFault) (rest : Option Judgement) → ((x : A) → told (next x) ≡ rest) → on r next rest
goes_on (Ok x) next rest h = h x
goes_on (Err f) next rest h = refl

-- a last step that can't fail
done : {A B : Type 0} → (r : Result A AsmFault) (make : A → B) → told (r >>= λ x. Ok (make x)) ≡ told r
done (Ok x) make = refl
done (Err f) make = refl

each : {A B : Type 0} → (link : A → Result B AsmKind) (n : ℕ) (xs : List A) → told (each_line link n xs) ≡ first (judged_lines link n xs)
unfolding each_line
each {B = B} link n [] = refl
each {B = B} link n (x ∷ xs) = go (link x) (each link (n + 1) xs)
  where
    go : (r : Result B AsmKind) → told (each_line link (n + 1) xs) ≡ first (judged_lines link (n + 1) xs)
        → told (in_line fault n r >>= λ y. each_line link (n + 1) xs >>= λ ys. Ok (y ∷ ys)) ≡ first (record { line = n; fault = fault_in r } ∷ judged_lines link (n + 1) xs)
    go (Ok y) h = done (each_line link (n + 1) xs) (λ ys. y ∷ ys) ∙ h
    go (Err kind) h = refl

one : (t : Tables) (n : ℕ) (f : DraftFunction) → told (link_function t n f) ≡ first (judged_lines (link_draft t (length f.drafts)) (n + 1) f.drafts)
unfolding link_function
one t n f = done (each_line (link_draft t (length f.drafts)) (n + 1) f.drafts) (λ ops. record { name = f.name; locals = f.locals; number = 0; ops = ops }) ∙ each (link_draft t (length f.drafts)) (n + 1) f.drafts

functions : (t : Tables) (n : ℕ) (funcs : List DraftFunction) → told (link_functions t n funcs) ≡ first (judged_functions t n funcs)
unfolding link_functions
functions t n [] = refl
functions t n (f ∷ funcs) =
    let m = n + length f.drafts + 2 in
    let own = judged_lines (link_draft t (length f.drafts)) (n + 1) f.drafts in
    goes_on (link_function t n f) (λ func. link_functions t m funcs >>= λ rest. Ok (func ∷ rest)) (told (link_functions t m funcs)) (λ func. done (link_functions t m funcs) (λ rest. func ∷ rest))
    ∙ ap₂ option_or (one t n f) (functions t m funcs)
    ∙ sym (find-append (λ j. is_some j.fault) own (judged_functions t m funcs))

pub links : (s : Source) → told (link s) ≡ first (judgements s)
unfolding link
links s =
    let t = tables_of s in
    let threads = each_line (link_start t) (first_thread s) s.threads in
    goes_on (link_functions t (first_function s) s.funcs) (λ funcs. threads >>= λ starts. Ok (record { locks = s.locks; funcs = funcs; threads = starts })) (told threads)
    (λ funcs. done threads (λ starts. record { locks = s.locks; funcs = funcs; threads = starts }))
    ∙ ap₂ option_or (functions t (first_function s) s.funcs) (each (link_start t) (first_thread s) s.threads)
    ∙ sym (find-append (λ j. is_some j.fault) (judged_functions t (first_function s) s.funcs) (judged_lines (link_start t) (first_thread s) s.threads))
