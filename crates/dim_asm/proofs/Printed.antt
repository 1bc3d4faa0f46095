-- Lines of a program's text, one more at a time.
use Rattle.std.proofs.Common.{◌≡◌, ◌<◌, ◌+◌, ℕ, List, [], ◌∷◌, ◌++◌, length, map, take, get_or, All, sym, ap, ◌∙◌, append_assoc, append-nil}
use Rattle.std.proofs.lemmas.List.{take_more, map_push}
use Rattle.std.proofs.lemmas.List.Concat.{flat_map-append}
use Rattle.std.proofs.lemmas.List.Elements.{All-push, All-same}
use Rattle.dim_text.specs.Cuts.{ended}
use Rattle.dim_asm.specs.declared.op.Op.{Op}
use Rattle.dim_asm.specs.declared.start.Start.{Start}
use Rattle.dim_asm.specs.Code.{Function}
use Rattle.dim_asm.specs.Source.{Statement, FuncLine, OpLine}
use Rattle.dim_asm.specs.Linking.{Tables}
use Rattle.dim_asm.specs.Spelling.{spelled, open_function, text_of}
use Rattle.dim_asm.specs.Printing.{named_op, named_function, named_start, thread_line}

pub text-append : (a b : List Statement) → text_of (a ++ b) ≡ text_of a ++ text_of b
text-append a b = flat_map-append (λ line. ended (spelled line)) a b

pub text-push : (lines : List Statement) (x : Statement) → text_of (lines ++ x ∷ []) ≡ text_of lines ++ ended (spelled x)
text-push lines x = text-append lines (x ∷ []) ∙ ap (λ t. text_of lines ++ t) (append-nil (ended (spelled x)))

-- a text of lines, and one line more
grown : {X : Type 0} (lines : List X → List Statement) (line : X → Statement) (xs : List X) (i : ℕ) (d : X) (old mid new : List ℕ)
    → ((ys : List X) (y : X) → lines (ys ++ y ∷ []) ≡ lines ys ++ line y ∷ []) → i < length xs
    → mid ≡ old ++ text_of (lines (take i xs)) → new ≡ mid ++ ended (spelled (line (get_or xs i d)))
    → new ≡ old ++ text_of (lines (take (i + 1) xs))
grown lines line xs i d old mid new push lt before e =
    let x = get_or xs i d in
    let longer : text_of (lines (take (i + 1) xs)) ≡ text_of (lines (take i xs)) ++ ended (spelled (line x)) =
    ap (λ ys. text_of (lines ys)) (take_more xs i d lt) ∙ ap text_of (push (take i xs) x) ∙ text-push (lines (take i xs)) (line x) in
    e ∙ ap (λ t. t ++ ended (spelled (line x))) before ∙ append_assoc old (text_of (lines (take i xs))) (ended (spelled (line x))) ∙ ap (λ t. old ++ t) (sym longer)

-- the lines of a function, down to one more instruction
pub function_grown : (t : Tables) (f : Function) (ops : List Op) (i : ℕ) (d : Op) (old mid new : List ℕ) → i < length ops
    → mid ≡ old ++ text_of (open_function (named_function t (record f { ops = take i ops }))) → new ≡ mid ++ ended (spelled (OpLine (named_op t (get_or ops i d))))
    → new ≡ old ++ text_of (open_function (named_function t (record f { ops = take (i + 1) ops })))
function_grown t f ops i d old mid new lt before e =
    grown (λ os. open_function (named_function t (record f { ops = os }))) (λ o. OpLine (named_op t o)) ops i d old mid new
    (λ os o. ap (λ ds. FuncLine f.name f.locals ∷ map (λ x. OpLine x) ds) (map_push (named_op t) os o) ∙ ap (λ ls. FuncLine f.name f.locals ∷ ls) (map_push (λ x. OpLine x) (map (named_op t) os) (named_op t o)))
    lt before e

-- the lines of threads, and one more
pub threads_grown : (t : Tables) (threads : List Start) (i : ℕ) (d : Start) (old mid new : List ℕ) → i < length threads
    → mid ≡ old ++ text_of (map thread_line (map (named_start t) (take i threads))) → new ≡ mid ++ ended (spelled (thread_line (named_start t (get_or threads i d))))
    → new ≡ old ++ text_of (map thread_line (map (named_start t) (take (i + 1) threads)))
threads_grown t threads i d old mid new lt before e =
    grown (λ ss. map thread_line (map (named_start t) ss)) (λ s. thread_line (named_start t s)) threads i d old mid new
    (λ ss s. ap (map thread_line) (map_push (named_start t) ss s) ∙ map_push thread_line (map (named_start t) ss) (named_start t s))
    lt before e

-- what holds of the first ones, and of one more
pub one_more : {X : Type 0} (P : X → Type 0) (xs : List X) (i : ℕ) (d : X) → i < length xs → All P (take i xs) → P (get_or xs i d) → All P (take (i + 1) xs)
one_more P xs i d lt h p = All-same P (take (i + 1) xs) (take i xs ++ get_or xs i d ∷ []) (take_more xs i d lt) (All-push P (take i xs) (get_or xs i d) h p)
