-- Texts of values in a row, with one more.
use Rattle.std.proofs.Common.{◌≡◌, ℕ, suc, ◌+◌, List, [], ◌∷◌, ◌++◌, length, map, take, Some, sym, ap, ◌∙◌, append_assoc, append-nil, arith}
use Rattle.std.specs.Prelude.{Bool, slice_get}
use Rattle.std.specs.List.{flat_map}
use Rattle.std.proofs.lemmas.List.{length-map, map_push, take_more, length-take-le}
use Rattle.std.proofs.lemmas.List.Concat.{flat_map-append}
use Rattle.std.proofs.lemmas.Option.{get_or_from_slice_get, slice_get_within}
use Rattle.dim_text.specs.Cuts.{ended}
use Rattle.dim_history_file.specs.Spelling.{StackLine, spelled}
use Rattle.dim_history_file.specs.Value.{NamedFrame}
use Rattle.dim_inquiry.specs.Report.{by_number}
use Rattle.dim_inquiry.specs.Show.{shown_line, shown_sig}

pub take_one_more : {X : Type 0} (xs : List X) (i : ℕ) (x : X) → slice_get xs i ≡ Some x → take (i + 1) xs ≡ take i xs ++ x ∷ []
take_one_more xs i x h = take_more xs i x (slice_get_within xs i x h) ∙ ap (λ y. take i xs ++ y ∷ []) (get_or_from_slice_get xs i x x h)

pub by_number-last : {X : Type 0} (text : ℕ → X → List ℕ) (i : ℕ) (xs : List X) (x : X) → by_number text i (xs ++ x ∷ []) ≡ by_number text i xs ++ text (i + length xs) x
unfolding by_number
by_number-last text i [] x = append-nil (text i x) ∙ ap (λ n. text n x) (omega arith)
by_number-last text i (y ∷ ys) x =
    ap (λ t. text i y ++ t) (by_number-last text (suc i) ys x)
    ∙ sym (append_assoc (text i y) (by_number text (suc i) ys) (text (suc i + length ys) x))
    ∙ ap (λ n. (text i y ++ by_number text (suc i) ys) ++ text n x) (omega arith)

-- the lines of a signature with one stack more
pub shown_more : (i depth : ℕ) (on : Bool) (yields : ℕ) (stacks : List (List NamedFrame)) (s : List NamedFrame)
    → shown_sig i (record { depth = depth; stacks = stacks ++ s ∷ []; on = on; yields = yields })
    ≡ shown_sig i (record { depth = depth; stacks = stacks; on = on; yields = yields }) ++ ended (spelled (StackLine s))
shown_more i depth on yields stacks s =
    let line : List NamedFrame → List ℕ = λ stack. ended (spelled (StackLine stack)) in
    let first = shown_line i depth on yields in
    ap (λ t. first ++ t) (flat_map-append line stacks (s ∷ []) ∙ ap (λ t. flat_map line stacks ++ t) (append-nil (line s)))
    ∙ sym (append_assoc first (flat_map line stacks) (line s))

-- with the value at a place
pub by_number_map : {X Y : Type 0} (text : ℕ → Y → List ℕ) (f : X → Y) (xs : List X) (i : ℕ) (x : X) → slice_get xs i ≡ Some x
    → by_number text 0 (map f (take (i + 1) xs)) ≡ by_number text 0 (map f (take i xs)) ++ text i (f x)
by_number_map text f xs i x h =
    let low = slice_get_within xs i x h in
    ap (λ ys. by_number text 0 (map f ys)) (take_one_more xs i x h)
    ∙ ap (by_number text 0) (map_push f (take i xs) x)
    ∙ by_number-last text 0 (map f (take i xs)) (f x)
    ∙ ap (λ n. by_number text 0 (map f (take i xs)) ++ text n (f x)) (omega (arith, length-map (take i xs) f, length-take-le i xs (omega (arith, low))))

pub by_number_more : {X : Type 0} (text : ℕ → X → List ℕ) (xs : List X) (i : ℕ) (x : X) → slice_get xs i ≡ Some x
    → by_number text 0 (take (i + 1) xs) ≡ by_number text 0 (take i xs) ++ text i x
by_number_more text xs i x h =
    let low = slice_get_within xs i x h in
    ap (by_number text 0) (take_one_more xs i x h)
    ∙ by_number-last text 0 (take i xs) x
    ∙ ap (λ n. by_number text 0 (take i xs) ++ text n x) (omega (arith, length-take-le i xs (omega (arith, low))))

-- the same where the first value has another number
pub by_number_from : {X : Type 0} (text : ℕ → X → List ℕ) (first : ℕ) (xs : List X) (i : ℕ) (x : X) → slice_get xs i ≡ Some x
    → by_number text first (take (i + 1) xs) ≡ by_number text first (take i xs) ++ text (i + first) x
by_number_from text first xs i x h =
    let low = slice_get_within xs i x h in
    ap (by_number text first) (take_one_more xs i x h)
    ∙ by_number-last text first (take i xs) x
    ∙ ap (λ n. by_number text first (take i xs) ++ text n x) (omega (arith, length-take-le i xs (omega (arith, low))))
