-- Programs that are bound to a table of names.
use Rattle.std.proofs.Common.{◌≡◌, ◌<◌, ◌≤◌, ◌+◌, ℕ, suc, zero, List, [], ◌∷◌, ◌++◌, length, map, get_or, take, drop, set, Option, Some, None, Result, Ok, Err, All, Contains, arith, refl, sym, ap, ap₂, ◌∙◌, subst}
use Rattle.std.specs.Prelude.{slice_get, unwrap_or, IfOk}
use Rattle.std.specs.Option.{option_map}
use Rattle.std.proofs.lemmas.List.{length-map, length-drop, drop_more, drop-set-lt, take_more, take_more_set, map_push}
use Rattle.std.proofs.lemmas.List.Elements.{All-nil, All-cons, All-map, All-weaker}
use Rattle.std.proofs.lemmas.List.Sums.{sum_by-cons}
use Rattle.std.proofs.lemmas.Option.{slice_get-map, slice_get-get_or}
use Rattle.dim_text.specs.Naming.{IsName}
use Rattle.std.specs.Ordering.{match_ordering}
use Rattle.std.specs.declared.cmp.Ordering.{Ordering}
use Rattle.std.specs.declared.cmp.Ordering.TheVariants.{Less, Equal, Greater}
use Rattle.dim_stack.specs.Names.{table_of, with_name, name_cmp, name_number as number_among}
use Rattle.dim_stack.proofs.Exports.{missing, has_own}
use Rattle.dim_asm.specs.Code.{Code, Function, lock_count, func_count, func_names, number_in, name_in, locals_in, op_in, op_count, AreNames, IsFunction, IsProgram}
use Rattle.dim_asm.specs.Bound.{own_names, numbered, bound, KeptLaw, NumbersLaw, LastLaw, OwnNamesLaw}

-- ---- what binding keeps
pub names-numbered : (names : List (List ℕ)) (fs : List Function) → func_names (map (numbered names) fs) ≡ func_names fs
names-numbered names [] = refl
names-numbered names (f ∷ fs) = ap (λ ns. f.name ∷ ns) (names-numbered names fs)

count-numbered : (names : List (List ℕ)) (fs : List Function) → op_count (map (numbered names) fs) ≡ op_count fs
count-numbered names [] = refl
count-numbered names (f ∷ fs) =
    sum_by-cons (λ g. length g.ops) (numbered names f) (map (numbered names) fs)
    ∙ ap (λ n. length f.ops + n) (count-numbered names fs)
    ∙ sym (sum_by-cons (λ g. length g.ops) f fs)

same_locals : (names : List (List ℕ)) (o : Option Function) → locals_in (option_map (numbered names) o) ≡ locals_in o
same_locals names None = refl
same_locals names (Some f) = refl

same_ops : (names : List (List ℕ)) (at : ℕ) (o : Option Function) → op_in at (option_map (numbered names) o) ≡ op_in at o
same_ops names at None = refl
same_ops names at (Some f) = refl

pub kept : KeptLaw
kept names p = record {
  locks = refl;
  threads = refl;
  count = length-map p.funcs (numbered names);
  names = names-numbered names p.funcs;
  locals = λ f. ap locals_in (slice_get-map (numbered names) p.funcs f) ∙ same_locals names (slice_get p.funcs f);
  ops = λ f at. ap (op_in at) (slice_get-map (numbered names) p.funcs f) ∙ same_ops names at (slice_get p.funcs f);
}

same_function : (names : List (List ℕ)) (locks funcs : ℕ) (f : Function) → IsFunction locks funcs f → IsFunction locks funcs (numbered names f)
same_function names locks funcs f h = record {
  some_ops = h.some_ops;
  few_locals = h.few_locals;
  fine = h.fine;
  within = h.within;
}

-- a program that is bound is one
pub bound_program : (names : List (List ℕ)) (p : Code) → IsProgram p → IsProgram (bound names p)
bound_program names p h =
    let count : length (map (numbered names) p.funcs) ≡ length p.funcs = length-map p.funcs (numbered names) in
    let functions : All (IsFunction (lock_count p) (func_count p)) (map (numbered names) p.funcs) =
    All-map (IsFunction (lock_count p) (func_count p)) (numbered names) p.funcs (All-weaker (IsFunction (lock_count p) (func_count p)) _ (same_function names (lock_count p) (func_count p)) p.funcs h.functions) in
    record {
      few_locks = h.few_locks;
      some_funcs = omega (arith, count, h.some_funcs);
      few_funcs = omega (arith, count, h.few_funcs);
      few_ops = omega (arith, count-numbered names p.funcs, h.few_ops);
      some_threads = h.some_threads;
      few_threads = h.few_threads;
      lock_names = h.lock_names;
      names = subst AreNames (sym (names-numbered names p.funcs)) h.names;
      functions = subst (λ n. All (IsFunction (lock_count p) n) (map (numbered names) p.funcs)) (sym count) functions;
      starts = subst (λ n. All (λ s. s.func < n) p.threads) (sym count) h.starts;
    }

-- one function more has been numbered, where those before it have their numbers and the rest are as they were
pub one_more : (f : Function → Function) (xs ys : List Function) (i : ℕ) (x y : Function) → i < length ys → y ≡ f (get_or xs i x) → take i xs ≡ map f (take i ys) → drop i xs ≡ drop i ys
    → (take (i + 1) (set xs i y) ≡ map f (take (i + 1) ys)) × (drop (i + 1) (set xs i y) ≡ drop (i + 1) ys)
one_more f xs ys i x y long new done left =
    let lt : i < length xs = omega (arith, ap length left, length-drop i xs, length-drop i ys) in
    let both : get_or xs i x ∷ drop (i + 1) xs ≡ get_or ys i x ∷ drop (i + 1) ys = sym (drop_more xs i x lt) ∙ left ∙ drop_more ys i x long in
    let head : get_or xs i x ≡ get_or ys i x = cc (both) in
    let tail : drop (i + 1) xs ≡ drop (i + 1) ys = cc (both) in (
      take_more_set xs i y lt
          ∙ ap₂ (λ zs z. zs ++ z ∷ []) done (new ∙ ap f head)
          ∙ sym (map_push f (take i ys) (get_or ys i x))
          ∙ ap (map f) (sym (take_more ys i x long)),
      drop-set-lt (i + 1) xs i y (omega arith) ∙ tail,
    )

-- ---- the numbers

-- a name that stands in a table has a number
has_number : (names : List (List ℕ)) (name : List ℕ) → Contains names name → number_among names name ≡ Some (unwrap_or (number_among names name) 0)
has_number names name there = by (number_among names name) refl
  where
    by : (o : Option ℕ) → number_among names name ≡ o → o ≡ Some (unwrap_or o 0)
    by None none = absurd (missing names name none there.0 name there.1 there.2)
    by (Some n) is = refl

-- a function's name stands among the names
name_there : (fs : List Function) (f : ℕ) (d : Function) → f < length fs → Contains (func_names fs) (get_or fs f d).name
name_there fs f d lt =
    let name = (get_or fs f d).name in
    let long : f < length (func_names fs) = omega (arith, lt, length-map fs (λ g. g.name)) in
    (f, long, name_at fs f d name lt)
  where
    name_at : (fs : List Function) (f : ℕ) (d : Function) (e : List ℕ) → f < length fs → get_or (func_names fs) f e ≡ (get_or fs f d).name
    name_at [] f d e lt = absurd (omega arith)
    name_at (g ∷ fs) zero d e lt = refl
    name_at (g ∷ fs) (suc f) d e lt = name_at fs f d e (omega arith)

no_function : Function
no_function = record { name = []; locals = 0; number = 0; ops = [] }

pub numbers : NumbersLaw
numbers names p known f lt =
    let small : f < length p.funcs = omega (arith, lt, length-map p.funcs (numbered names)) in
    let func = get_or p.funcs f no_function in
    let here : slice_get (map (numbered names) p.funcs) f ≡ Some (numbered names func) = slice_get-map (numbered names) p.funcs f ∙ ap (option_map (numbered names)) (slice_get-get_or p.funcs f no_function small) in
    subst (λ o. number_among names (name_in o) ≡ Some (number_in o)) (sym here) (has_number names func.name (known func.name (name_there p.funcs f no_function small)))

numbered-again : (names others : List (List ℕ)) (fs : List Function) → map (numbered names) (map (numbered others) fs) ≡ map (numbered names) fs
numbered-again names others [] = refl
numbered-again names others (f ∷ fs) = ap (λ gs. numbered names f ∷ gs) (numbered-again names others fs)

pub last : LastLaw
last names others p = ap (λ fs. record p { funcs = fs }) (numbered-again names others p.funcs)

-- ---- tables
length-with_name : (name : List ℕ) (names : List (List ℕ)) → length (with_name name names) ≤ length names + 1
length-with_name name [] = omega arith
length-with_name name (x ∷ xs) = by (name_cmp name x) (length-with_name name xs)
  where
    by : (o : Ordering) → length (with_name name xs) ≤ length xs + 1 → length (match_ordering o (name ∷ x ∷ xs) (x ∷ xs) (x ∷ with_name name xs)) ≤ length (x ∷ xs) + 1
    by Less h = omega arith
    by Equal h = omega arith
    by Greater h = omega arith

-- a table is no longer than its names
pub length-table_of : (names : List (List ℕ)) → length (table_of names) ≤ length names
length-table_of [] = omega arith
length-table_of (name ∷ names) = omega (arith, length-with_name name (table_of names), length-table_of names)

pub own : OwnNamesLaw
own p = has_own (func_names p.funcs)

-- names are names
pub named : (names : List (List ℕ)) → AreNames names → All IsName names
named [] h = All-nil IsName
named (name ∷ names) h = All-cons IsName name names h.0 (named names h.2)

-- a program has few names
pub few_own_names : (p : Code) → IsProgram p → length (own_names p) ≤ 256
few_own_names p h = omega (arith, length-table_of (func_names p.funcs), length-map p.funcs (λ f. f.name), h.few_funcs)

-- what is known of the own names is known of the table that was made of the names
pub own_is : {E : Type 0} (p : Code) (r : Result (List (List ℕ)) E) (names : List (List ℕ)) (P : List (List ℕ) → Type 0) → names ≡ func_names p.funcs → P (own_names p) → IfOk r (λ table. table ≡ table_of names) → IfOk r P
own_is p (Ok table) names P is h e = subst P (sym (e ∙ ap table_of is)) h
own_is p (Err e) names P is h k = tt
