-- Names in place of numbers, and numbers in place of names.
use Rattle.std.proofs.Common.{◌≡◌, ◌<◌, ◌+◌, ℕ, suc, zero, true, false, cond, ltb, List, [], ◌∷◌, length, map, get_or, Some, None, Option, Result, Ok, All, arith, refl, sym, ap, ap₂, ◌∙◌, subst}
use Rattle.std.specs.Prelude.{not, FitsSigned}
use Rattle.std.specs.Int.{w64}
use Rattle.std.specs.List.{AllByRecursion, position_or_len}
use Rattle.std.specs.Str.{bytes_eq}
use Rattle.std.proofs.lemmas.Bool.{lt-ltb}
use Rattle.std.proofs.lemmas.List.Elements.{All-from_recursion, All-map}
use Rattle.std.proofs.lemmas.List.Quantifiers.{position-Some}
use Rattle.std.proofs.lemmas.Slice.Eq.{bytes_eq-Decides}
use Rattle.dim_text.specs.Naming.{IsName}
use Rattle.dim_text.specs.Reading.{◌>>=◌, or_else, in_line}
use Rattle.dim_text.proofs.Exports.{bind_ok, or_else_ok, in_line_ok}
use Rattle.dim_text.specs.Words.{unless}
use Rattle.dim_stack.specs.Names.{table_of}
use Rattle.dim_asm.specs.declared.fault.AsmKind.{AsmKind}
use Rattle.dim_asm.specs.declared.fault.AsmKind.TheVariants.{Unknown, Shape}
use Rattle.dim_asm.specs.declared.op.Op.{Op}
use Rattle.dim_asm.specs.declared.op.Op.TheVariants as op
use Rattle.dim_asm.specs.declared.start.Start.{Start}
use Rattle.dim_asm.specs.declared.mnemonic.Naming.{Naming}
use Rattle.dim_asm.specs.declared.mnemonic.Naming.TheVariants as naming
use Rattle.dim_asm.specs.Faults.{fault}
use Rattle.dim_asm.specs.Code.{Code, Function, place_of, has_name, func_names, AreNames, IsProgram}
use Rattle.dim_asm.specs.Source.{Source, Draft, Ready, Refers, DraftFunction, DraftStart, names_of}
use Rattle.dim_asm.specs.Grammar.{IsReady, IsDraft, IsOpen, IsStart, IsSource}
use Rattle.dim_asm.specs.Linking.{Tables, leaves, looks_in, referring, link_draft, link_start, each_line, link_function, link_functions, link, tables_of, first_function, first_thread}
use Rattle.dim_asm.specs.Bound.{own_names, numbered, bound}
use Rattle.dim_asm.specs.Printing.{names_in, name_at, named_op, named_function, named_start, named, HasWidth, IsPrintable}
use Rattle.dim_asm.proofs.Fitting.{differ, or_false}
use Rattle.dim_asm.proofs.Judgements.{same_bytes}
use Rattle.dim_asm.proofs.Linked.{link_parts, linked}
use Rattle.dim_asm.proofs.BoundLemmas.{names-numbered, bound_program, named as each_named}

-- ---- a name by its number, and back

-- the name that was found at a number
found : (names : List (List ℕ)) (name : List ℕ) (i : ℕ) → place_of names name ≡ Some i → name_at names i ≡ name
found names name i e = sym (same_bytes name (get_or names i []) (position-Some (bytes_eq name) names i [] e).1)

another : (names : List (List ℕ)) (name : List ℕ) (i : ℕ) → has_name names name ≡ false → i < length names → bytes_eq name (get_or names i []) ≡ false
another [] name i h lt = absurd (omega arith)
another (n ∷ names) name zero h lt = (or_false (bytes_eq name n) (has_name names name) h).0
another (n ∷ names) name (suc i) h lt = another names name i (or_false (bytes_eq name n) (has_name names name) h).1 (omega arith)

first_at : (names : List (List ℕ)) (i : ℕ) → AreNames names → i < length names → position_or_len (bytes_eq (get_or names i [])) names ≡ i
first_at [] i h lt = absurd (omega arith)
first_at (n ∷ names) zero h lt = let same : bytes_eq n n ≡ true = (bytes_eq-Decides n n).1 refl in rw same refl
first_at (n ∷ names) (suc i) h lt =
    let name = get_or names i [] in
    let apart : bytes_eq name n ≡ false = differ n name (another names n i h.1 (omega arith)) in
    ap (λ b. cond (not b) (1 + position_or_len (bytes_eq name) names) 0) apart ∙ ap (λ k. 1 + k) (first_at names i h.2 (omega arith)) ∙ omega arith

-- the number at which a name stands among distinct names
pub placed : (names : List (List ℕ)) (i : ℕ) → AreNames names → i < length names → place_of names (name_at names i) ≡ Some i
placed names i h lt =
    let some = λ (k : ℕ). let r : Option ℕ = Some k in r in
    ap (λ k. cond (ltb k (length names)) (some k) None) (first_at names i h lt) ∙ ap (λ b. cond b (some i) None) (lt-ltb i (length names) lt)

pub name_is : (names : List (List ℕ)) (i : ℕ) → AreNames names → i < length names → IsName (name_at names i)
name_is names i h lt = each_named names h i [] lt

-- ---- what was linked, with its names

ready_back : (t : Tables) (o : Op) → IsReady o → (named_op t o ≡ Ready o) × HasWidth o
ready_back t (op.Push n) h = (refl, h)
ready_back t (op.Call f) h = absurd h
ready_back t (op.Lock l) h = absurd h
ready_back t (op.Unlock l) h = absurd h
ready_back t (op.TryLock l) h = absurd h
ready_back t _ h = (refl, tt)

referring_back : (t : Tables) (n : Naming) (i : ℕ) → (named_op t (referring n i) ≡ Refers n (name_at (looks_in t n) i)) × HasWidth (referring n i)
referring_back t naming.Call i = (refl, tt)
referring_back t naming.Lock i = (refl, tt)
referring_back t naming.Unlock i = (refl, tt)
referring_back t naming.TryLock i = (refl, tt)

-- an instruction that was linked, by its names
abbrev IsNamed : Tables → Draft → Op → Type 0
IsNamed t d o = (named_op t o ≡ d) × HasWidth o

draft_back : (t : Tables) (size : ℕ) (d : Draft) (o : Op) → IsDraft d → link_draft t size d ≡ Ok o → IsNamed t d o
unfolding link_draft
draft_back t size (Ready q) o h e =
    let parts = bind_ok (unless (leaves size q) Shape) (λ _. Ok q) o e in
    let same : q ≡ o = cc (parts.2) in
    subst (IsNamed t (Ready q)) same (ready_back t q h)
draft_back t size (Refers n name) o h e =
    let parts = bind_ok (or_else (place_of (looks_in t n) name) Unknown) (λ i. Ok (referring n i)) o e in
    let i = parts.0 in
    let place = or_else_ok (place_of (looks_in t n) name) Unknown i parts.1 in
    let same : referring n i ≡ o = cc (parts.2) in
    let back = referring_back t n i in
    subst (IsNamed t (Refers n name)) same (back.0 ∙ ap (λ w. Refers n w) (found (looks_in t n) name i place), back.1)

abbrev IsNamedStart : Tables → DraftStart → Start → Type 0
IsNamedStart t s r = (named_start t r ≡ s) × FitsSigned w64 r.argument

start_back : (t : Tables) (s : DraftStart) (r : Start) → IsStart s → link_start t s ≡ Ok r → IsNamedStart t s r
unfolding link_start
start_back t s r h e =
    let made = λ (f : ℕ). let made : Start = record { func = f; argument = s.argument } in made in
    let parts = bind_ok (or_else (place_of t.names s.func) Unknown) (λ f. Ok (made f)) r e in
    let place = or_else_ok (place_of t.names s.func) Unknown parts.0 parts.1 in
    let same : made parts.0 ≡ r = cc (parts.2) in
    let name = λ (w : List ℕ). let d : DraftStart = record { func = w; argument = s.argument } in d in
    subst (IsNamedStart t s) same (ap name (found t.names s.func parts.0 place), h.argument)

-- line by line
lines_back : {A B : Type 0} (f : A → Result B AsmKind) (g : B → A) (P : A → Type 0) (Q : B → Type 0) → ((x : A) (y : B) → P x → f x ≡ Ok y → (g y ≡ x) × Q y) → (n : ℕ) (xs : List A) (ys : List B)
    → AllByRecursion P xs → each_line f n xs ≡ Ok ys → (map g ys ≡ xs) × AllByRecursion Q ys
unfolding each_line
lines_back f g P Q step n [] ys h e = let none : [] ≡ ys = cc in subst (λ zs. (map g zs ≡ []) × AllByRecursion Q zs) none (refl, tt)
lines_back f g P Q step n (x ∷ xs) ys h e =
    let first = bind_ok (in_line fault n (f x)) (λ y. each_line f (n + 1) xs >>= λ zs. Ok (y ∷ zs)) ys e in
    let more = bind_ok (each_line f (n + 1) xs) (λ zs. Ok (first.0 ∷ zs)) ys first.2 in
    let one = step x first.0 h.0 (in_line_ok fault n (f x) first.0 first.1) in
    let rest = lines_back f g P Q step (n + 1) xs more.0 h.1 more.1 in
    let whole : first.0 ∷ more.0 ≡ ys = cc (more.2) in
    subst (λ zs. (map g zs ≡ x ∷ xs) × AllByRecursion Q zs) whole (ap₂ (λ z zs. z ∷ zs) one.0 rest.0, (one.1, rest.1))

abbrev pub HaveWidth : Function → Type 0
HaveWidth f = All HasWidth f.ops

abbrev IsNamedFunction : Tables → DraftFunction → Function → Type 0
IsNamedFunction t f g = (named_function t g ≡ f) × HaveWidth g

function_back : (t : Tables) (n : ℕ) (f : DraftFunction) (g : Function) → IsOpen f → link_function t n f ≡ Ok g → IsNamedFunction t f g
unfolding link_function
function_back t n f g h e =
    let made = λ (ops : List Op). let made : Function = record { name = f.name; locals = f.locals; number = 0; ops = ops } in made in
    let parts = bind_ok (each_line (link_draft t (length f.drafts)) (n + 1) f.drafts) (λ ops. Ok (made ops)) g e in
    let ops = lines_back (link_draft t (length f.drafts)) (named_op t) IsDraft HasWidth (draft_back t (length f.drafts)) (n + 1) f.drafts parts.0 h.drafts parts.1 in
    let same : made parts.0 ≡ g = cc (parts.2) in
    let spelled = λ (ds : List Draft). let d : DraftFunction = record f { drafts = ds } in d in
    subst (IsNamedFunction t f) same (ap spelled ops.0, All-from_recursion HasWidth parts.0 ops.1)

functions_back : (t : Tables) (n : ℕ) (fs : List DraftFunction) (gs : List Function) → AllByRecursion IsOpen fs → link_functions t n fs ≡ Ok gs → (map (named_function t) gs ≡ fs) × AllByRecursion HaveWidth gs
unfolding link_functions
functions_back t n [] gs h e = let none : [] ≡ gs = cc in subst (λ ks. (map (named_function t) ks ≡ []) × AllByRecursion HaveWidth ks) none (refl, tt)
functions_back t n (f ∷ fs) gs h e =
    let more = λ (g : Function). link_functions t (n + length f.drafts + 2) fs >>= λ rest. Ok (g ∷ rest) in
    let first = bind_ok (link_function t n f) more gs e in
    let others = bind_ok (link_functions t (n + length f.drafts + 2) fs) (λ rest. Ok (first.0 ∷ rest)) gs first.2 in
    let one = function_back t n f first.0 h.0 first.1 in
    let rest = functions_back t (n + length f.drafts + 2) fs others.0 h.1 others.1 in
    let whole : first.0 ∷ others.0 ≡ gs = cc (others.2) in
    subst (λ ks. (map (named_function t) ks ≡ f ∷ fs) × AllByRecursion HaveWidth ks) whole (ap₂ (λ k ks. k ∷ ks) one.0 rest.0, (one.1, rest.1))

pub names_named : (t : Tables) (fs : List Function) → map (λ f. f.name) (map (named_function t) fs) ≡ func_names fs
names_named t [] = refl
names_named t (f ∷ fs) = ap (λ ns. f.name ∷ ns) (names_named t fs)

-- a source that was linked is what the text of the program says
pub linked_back : (s : Source) (p : Code) → IsSource s → link s ≡ Ok p → (named p ≡ s) × IsPrintable p
linked_back s p h e = by_parts s p h (linked s p h e) (link_parts s p e)
  where
    by_parts : (s : Source) (p : Code) → IsSource s → IsProgram p
        → (gs : List Function) × (rs : List Start) × (link_functions (tables_of s) (first_function s) s.funcs ≡ Ok gs) × (each_line (link_start (tables_of s)) (first_thread s) s.threads ≡ Ok rs) × (p ≡ record { locks = s.locks; funcs = gs; threads = rs })
        → (named p ≡ s) × IsPrintable p
    by_parts s p h sound (gs, rs, f, r, same) =
        let t = tables_of s in
        let q : Code = record { locks = s.locks; funcs = gs; threads = rs } in
        let funcs = functions_back t (first_function s) s.funcs gs h.front.functions f in
        let starts = lines_back (link_start t) (named_start t) IsStart (λ (x : Start). FitsSigned w64 x.argument) (start_back t) (first_thread s) s.threads rs h.front.starts r in
        let names : func_names gs ≡ names_of s = sym (names_named t gs) ∙ ap (map (λ g. g.name)) funcs.0 in
        let table = λ (ns : List (List ℕ)). let u : Tables = record { locks = s.locks; names = ns } in u in
        let tables : names_in q ≡ t = ap table names in
        let said = λ (u : Tables). let a : Source = record { locks = s.locks; funcs = map (named_function u) gs; threads = map (named_start u) rs } in a in
        let source = λ (fs : List DraftFunction) (ss : List DraftStart). let a : Source = record { locks = s.locks; funcs = fs; threads = ss } in a in
        let whole : named q ≡ s = ap said tables ∙ ap₂ source funcs.0 starts.0 in
        let printable : IsPrintable q = record {
          program = subst IsProgram same sound;
          ops = All-from_recursion HaveWidth gs funcs.1;
          arguments = All-from_recursion (λ (x : Start). FitsSigned w64 x.argument) rs starts.1;
        } in
        subst (λ (a : Code). (named a ≡ s) × IsPrintable a) (sym same) (whole, printable)

-- ---- numbers don't count
functions-numbered : (t : Tables) (names : List (List ℕ)) (fs : List Function) → map (named_function t) (map (numbered names) fs) ≡ map (named_function t) fs
functions-numbered t names [] = refl
functions-numbered t names (f ∷ fs) = ap (λ gs. named_function t f ∷ gs) (functions-numbered t names fs)

pub named-bound : (names : List (List ℕ)) (p : Code) → named (bound names p) ≡ named p
named-bound names p =
    let q = bound names p in
    let table = λ (ns : List (List ℕ)). let u : Tables = record { locks = p.locks; names = ns } in u in
    let tables : names_in q ≡ names_in p = ap table (names-numbered names p.funcs) in
    let said = λ (u : Tables). let a : Source = record { locks = p.locks; funcs = map (named_function u) q.funcs; threads = map (named_start u) p.threads } in a in
    let source = λ (fs : List DraftFunction). let a : Source = record { locks = p.locks; funcs = fs; threads = map (named_start (names_in p)) p.threads } in a in
    ap said tables ∙ ap source (functions-numbered (names_in p) names p.funcs)

pub own_names-bound : (names : List (List ℕ)) (p : Code) → own_names (bound names p) ≡ own_names p
own_names-bound names p = ap table_of (names-numbered names p.funcs)

pub bound_printable : (names : List (List ℕ)) (p : Code) → IsPrintable p → IsPrintable (bound names p)
bound_printable names p h = record {
  program = bound_program names p h.program;
  ops = All-map HaveWidth (numbered names) p.funcs h.ops;
  arguments = h.arguments;
}
