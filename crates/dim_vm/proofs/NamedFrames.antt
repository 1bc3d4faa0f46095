-- A frame at an instruction of a program that is bound to a table of names.
use Rattle.std.proofs.Common.{◌≡◌, ℕ, zero, suc, ◌<◌, ◌≤◌, List, [], ◌∷◌, length, refl, subst, arith, Option, Some, None}
use Rattle.std.specs.Prelude.{IsSome, slice_get}
use Rattle.std.specs.Str.{bytes_eq}
use Rattle.std.proofs.lemmas.Option.{slice_get_within, get_or_from_slice_get}
use Rattle.std.proofs.lemmas.List.Quantifiers.{position-Some}
use Rattle.std.proofs.lemmas.List.Sums.{get_or-le-sum_by}
use Rattle.dim_asm.specs.Code.{Function, func_count, func_name_of, function_number, op_in, op_count}
use Rattle.dim_vm.specs.Stacks.{NamedLaw}

short : {X : Type 0} (xs : List X) (i : ℕ) → IsSome (slice_get xs i) → i < length xs
short [] i h = cc
short (x ∷ xs) zero h = omega arith
short (x ∷ xs) (suc i) h = omega (arith, short xs i h)

-- a function that has an instruction at an offset
with_op : (o : Option Function) (at : ℕ) → IsSome (op_in at o) → (f : Function) × (o ≡ Some f) × (at < length f.ops)
with_op None at h = cc
with_op (Some f) at h = (f, refl, short f.ops at h)

size_within : (funcs : List Function) (i : ℕ) (f : Function) → slice_get funcs i ≡ Some f → length f.ops ≤ op_count funcs
size_within funcs i f e =
    subst (λ (g : Function). length g.ops ≤ op_count funcs) (get_or_from_slice_get funcs i f f e)
    (get_or-le-sum_by (λ (g : Function). length g.ops) funcs i f (slice_get_within funcs i f e))

pub named_law : NamedLaw
named_law names p frame program bound at =
    let f = with_op (slice_get p.funcs at.func) frame.at at.there in
    let low : at.func < func_count p = slice_get_within p.funcs at.func f.0 f.1 in
    let number : function_number p at.func < length names = (position-Some (bytes_eq (func_name_of p at.func)) names (function_number p at.func) [] (bound at.func low)).0 in
    (omega (arith, number, at.number), omega (arith, f.2, size_within p.funcs at.func f.0 f.1, program.few_ops))
