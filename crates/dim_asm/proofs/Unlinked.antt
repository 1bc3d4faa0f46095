-- What the text of a program says is a source, which is linked to that program again.
use Rattle.std.proofs.Common.{◌≡◌, ◌<◌, ◌≤◌, ◌+◌, ℕ, List, [], ◌∷◌, length, map, get_or, Result, Ok, arith, refl, sym, ap, ◌∙◌, subst}
use Rattle.std.specs.Prelude.{FitsSigned}
use Rattle.std.specs.Int.{w64}
use Rattle.std.specs.List.{AllByRecursion}
use Rattle.std.proofs.lemmas.Bool.{le-ltb}
use Rattle.std.proofs.lemmas.List.{length-map}
use Rattle.std.proofs.lemmas.List.Elements.{recursion_from_All}
use Rattle.std.proofs.lemmas.List.Sums.{sum_by-cons, get_or-le-sum_by}
use Rattle.dim_text.specs.Reading.{◌>>=◌}
use Rattle.dim_asm.specs.declared.fault.AsmKind.{AsmKind}
use Rattle.dim_asm.specs.declared.op.Op.{Op}
use Rattle.dim_asm.specs.declared.op.Op.TheVariants as op
use Rattle.dim_asm.specs.declared.start.Start.{Start}
use Rattle.dim_asm.specs.Code.{Code, Function, op_count, func_names, AreNames, IsFine, IsWithin, IsFunction, IsProgram}
use Rattle.dim_asm.specs.Source.{draft_count}
use Rattle.dim_asm.specs.Grammar.{IsDraft, IsOpen, IsStart, AreFilled, IsFront, IsSource}
use Rattle.dim_asm.specs.Linking.{Tables, link_draft, link_start, each_line, link_function, link_functions, link, tables_of, first_function, first_thread}
use Rattle.dim_asm.specs.Bound.{numbered, bound}
use Rattle.dim_asm.specs.Printing.{names_in, named_op, named_function, named_start, named, HasWidth, IsPrintable}
use Rattle.dim_asm.proofs.SourceLemmas.{draft_count-cons}
use Rattle.dim_asm.proofs.Naming.{placed, name_is, names_named, HaveWidth}

-- tables of distinct names
record AreTables (t : Tables) : Type 0 where
  pub locks : AreNames t.locks
  pub names : AreNames t.names

-- ---- it is linked again
op_linked : (t : Tables) (size : ℕ) (o : Op) → AreTables t → IsFine (length t.locks) (length t.names) o → IsWithin size o → link_draft t size (named_op t o) ≡ Ok o
unfolding link_draft
op_linked t size (op.Jmp k) d h w = rw (le-ltb size k w) refl
op_linked t size (op.Jz k) d h w = rw (le-ltb size k w) refl
op_linked t size (op.Call f) d h w = rw (placed t.names f d.names h) refl
op_linked t size (op.Lock l) d h w = rw (placed t.locks l.0 d.locks h) refl
op_linked t size (op.Unlock l) d h w = rw (placed t.locks l.0 d.locks h) refl
op_linked t size (op.TryLock l) d h w = rw (placed t.locks l.0 d.locks h) refl
op_linked t size _ d h w = refl

start_linked : (t : Tables) (s : Start) → AreTables t → s.func < length t.names → link_start t (named_start t s) ≡ Ok s
unfolding link_start
start_linked t s d h = rw (placed t.names s.func d.names h) refl

lines_linked : {A B : Type 0} (f : A → Result B AsmKind) (g : B → A) (P : B → Type 0) → ((y : B) → P y → f (g y) ≡ Ok y) → (n : ℕ) (ys : List B) → AllByRecursion P ys → each_line f n (map g ys) ≡ Ok ys
unfolding each_line
lines_linked f g P step n [] h = refl
lines_linked f g P step n (y ∷ ys) h = rw (step y h.0, lines_linked f g P step (n + 1) ys h.1) refl

-- an instruction with its lock or function, and within its function
abbrev Stands : Tables → ℕ → Op → Type 0
Stands t size o = IsFine (length t.locks) (length t.names) o × IsWithin size o

abbrev IsWhole : Tables → Function → Type 0
IsWhole t f = IsFunction (length t.locks) (length t.names) f

ops_stand : (t : Tables) (f : Function) → IsWhole t f → AllByRecursion (Stands t (length f.ops)) f.ops
ops_stand t f h = recursion_from_All (Stands t (length f.ops)) f.ops (λ i d lt. (h.fine i d lt, h.within i d lt))

function_linked : (t : Tables) (n : ℕ) (f : Function) → AreTables t → IsWhole t f → link_function t n (named_function t f) ≡ Ok (numbered [] f)
unfolding link_function
function_linked t n f d h =
    let made = λ (ops : List Op). let made : Function = record { name = f.name; locals = f.locals; number = 0; ops = ops } in made in
    let drafts = map (named_op t) f.ops in
    let size = length f.ops in
    let ops = lines_linked (link_draft t size) (named_op t) (Stands t size) (λ o k. op_linked t size o d k.0 k.1) (n + 1) f.ops (ops_stand t f h) in
    ap (λ k. each_line (link_draft t k) (n + 1) drafts >>= λ os. Ok (made os)) (length-map f.ops (named_op t)) ∙ ap (λ r. r >>= λ os. Ok (made os)) ops

functions_linked : (t : Tables) (n : ℕ) (fs : List Function) → AreTables t → AllByRecursion (IsWhole t) fs → link_functions t n (map (named_function t) fs) ≡ Ok (map (numbered []) fs)
unfolding link_functions
functions_linked t n [] d h = refl
functions_linked t n (f ∷ fs) d h = rw (function_linked t n f d h.0, functions_linked t (n + length (map (named_op t) f.ops) + 2) fs d h.1) refl

tables-named : (p : Code) → tables_of (named p) ≡ names_in p
tables-named p = ap (λ ns. let t : Tables = record { locks = p.locks; names = ns } in t) (names_named (names_in p) p.funcs)

tables_in : (p : Code) → IsProgram p → AreTables (names_in p)
tables_in p h = record { locks = h.lock_names; names = h.names }

count-names : (p : Code) → length (func_names p.funcs) ≡ length p.funcs
count-names p = length-map p.funcs (λ f. f.name)

wholes : (p : Code) → IsProgram p → AllByRecursion (IsWhole (names_in p)) p.funcs
wholes p h =
    let same = count-names p in
    recursion_from_All (IsWhole (names_in p)) p.funcs (λ i d lt. subst (λ n. IsFunction (length p.locks) n (get_or p.funcs i d)) (sym same) (h.functions i d lt))

begins : (p : Code) → IsProgram p → AllByRecursion (λ s. s.func < length (func_names p.funcs)) p.threads
begins p h =
    let same = count-names p in
    recursion_from_All (λ s. s.func < length (func_names p.funcs)) p.threads (λ i d lt. omega (arith, same, h.starts i d lt))

-- bound to no table, it is the program that its source says
pub linked_again : (p : Code) → IsProgram p → link (named p) ≡ Ok (bound [] p)
unfolding link
linked_again p h =
    let t = names_in p in
    let s = named p in
    let d = tables_in p h in
    let made = λ (funcs : List Function) (threads : List Start). let made : Code = record { locks = p.locks; funcs = funcs; threads = threads } in made in
    let body = λ (u : Tables). link_functions u (first_function s) s.funcs >>= λ funcs. each_line (link_start u) (first_thread s) s.threads >>= λ threads. Ok (made funcs threads) in
    let funcs = functions_linked t (first_function s) p.funcs d (wholes p h) in
    let starts = lines_linked (link_start t) (named_start t) (λ x. x.func < length t.names) (λ x k. start_linked t x d k) (first_thread s) p.threads (begins p h) in
    ap body (tables-named p)
    ∙ ap (λ r. r >>= λ funcs. each_line (link_start t) (first_thread s) s.threads >>= λ threads. Ok (made funcs threads)) funcs
    ∙ ap (λ r. r >>= λ threads. Ok (made (map (numbered []) p.funcs) threads)) starts

-- ---- it is a source
op_draft : (t : Tables) (size : ℕ) (o : Op) → AreTables t → size ≤ 65536 → Stands t size o → HasWidth o → IsDraft (named_op t o)
op_draft t size (op.Push n) d few h w = w
op_draft t size (op.Jmp k) d few h w = omega (arith, h.1, few)
op_draft t size (op.Jz k) d few h w = omega (arith, h.1, few)
op_draft t size (op.GetL i) d few h w = h.1
op_draft t size (op.PutL i) d few h w = h.1
op_draft t size (op.Call f) d few h w = name_is t.names f d.names h.0
op_draft t size (op.Lock l) d few h w = name_is t.locks l.0 d.locks h.0
op_draft t size (op.Unlock l) d few h w = name_is t.locks l.0 d.locks h.0
op_draft t size (op.TryLock l) d few h w = name_is t.locks l.0 d.locks h.0
op_draft t size _ d few h w = tt

-- what holds of each holds of each that is made of one
each_made : {X Y : Type 0} (P : Y → Type 0) (f : X → Y) (xs : List X) → AllByRecursion (λ x. P (f x)) xs → AllByRecursion P (map f xs)
each_made P f [] h = tt
each_made P f (x ∷ xs) h = (h.0, each_made P f xs h.1)

-- a function that has a text
record IsSpoken (t : Tables) (f : Function) : Type 0 where
  pub whole : IsWhole t f
  pub width : HaveWidth f
  pub few : length f.ops ≤ 65536

function_open : (t : Tables) (f : Function) → AreTables t → IsSpoken t f → IsOpen (named_function t f)
function_open t f d h = record {
  few_locals = h.whole.few_locals;
  drafts = each_made IsDraft (named_op t) f.ops (recursion_from_All (λ o. IsDraft (named_op t o)) f.ops (λ i e lt. op_draft t (length f.ops) _ d h.few (h.whole.fine i e lt, h.whole.within i e lt) (h.width i e lt)));
}

functions_open : (t : Tables) (fs : List Function) → AreTables t → AllByRecursion (IsSpoken t) fs → AllByRecursion IsOpen (map (named_function t) fs)
functions_open t [] d h = tt
functions_open t (f ∷ fs) d h = (function_open t f d h.0, functions_open t fs d h.1)

functions_filled : (t : Tables) (fs : List Function) → AllByRecursion (IsSpoken t) fs → AreFilled (map (named_function t) fs)
functions_filled t [] h = tt
functions_filled t (f ∷ fs) h = (omega (arith, h.0.whole.some_ops, length-map f.ops (named_op t)), functions_filled t fs h.1)

draft_count-named : (t : Tables) (fs : List Function) → draft_count (map (named_function t) fs) ≡ op_count fs
draft_count-named t [] = refl
draft_count-named t (f ∷ fs) =
    omega (arith, draft_count-cons (named_function t f) (map (named_function t) fs), draft_count-named t fs, length-map f.ops (named_op t), sum_by-cons (λ g. length g.ops) f fs)

spoken : (p : Code) → IsPrintable p → AllByRecursion (IsSpoken (names_in p)) p.funcs
spoken p h =
    let same = count-names p in
    recursion_from_All (IsSpoken (names_in p)) p.funcs (λ i d lt. record {
      whole = subst (λ n. IsFunction (length p.locks) n (get_or p.funcs i d)) (sym same) (h.program.functions i d lt);
      width = h.ops i d lt;
      few = omega (arith, h.program.few_ops, get_or-le-sum_by (λ g. length g.ops) p.funcs i d lt);
    })

start_named : (t : Tables) (s : Start) → AreTables t → s.func < length t.names → FitsSigned w64 s.argument → IsStart (named_start t s)
start_named t s d lt fits = record { func = name_is t.names s.func d.names lt; argument = fits }

starts_named : (p : Code) → IsPrintable p → AllByRecursion IsStart (map (named_start (names_in p)) p.threads)
starts_named p h =
    let same = count-names p in
    let t = names_in p in
    each_made IsStart (named_start t) p.threads (recursion_from_All (λ s. IsStart (named_start t s)) p.threads (λ i d lt. start_named t _ (tables_in p h.program) (omega (arith, same, h.program.starts i d lt)) (h.arguments i d lt)))

front_named : (p : Code) → IsPrintable p → IsFront (named p)
front_named p h =
    let t = names_in p in
    record {
      few_locks = h.program.few_locks;
      few_funcs = omega (arith, length-map p.funcs (named_function t), h.program.few_funcs);
      few_drafts = omega (arith, draft_count-named t p.funcs, h.program.few_ops);
      few_threads = omega (arith, length-map p.threads (named_start t), h.program.few_threads);
      lock_names = h.program.lock_names;
      names = subst AreNames (sym (names_named t p.funcs)) h.program.names;
      functions = functions_open t p.funcs (tables_in p h.program) (spoken p h);
      starts = starts_named p h;
    }

pub named_source : (p : Code) → IsPrintable p → IsSource (named p)
named_source p h =
    let t = names_in p in
    record {
      front = front_named p h;
      whole = (
        omega (arith, length-map p.funcs (named_function t), h.program.some_funcs),
        functions_filled t p.funcs (spoken p h),
        omega (arith, length-map p.threads (named_start t), h.program.some_threads),
      );
    }
