-- Programs whose functions have their numbers in a table of names.
use Rattle.std.specs.Prelude.{◌≡◌, ℕ, ◌<◌, List, map, unwrap_or, Some}
use Rattle.dim_stack.specs.Names.{HasNames, table_of, name_number as number_among}
use Rattle.dim_asm.specs.Code.{Code, Function, func_count, func_names, func_name_of, function_number, locals_of, op_at}

-- the table of the names of its functions
abbrev pub own_names : Code → List (List ℕ)
own_names p = table_of (func_names p.funcs)

-- each function has the number that its name has in the table
abbrev pub IsBound : List (List ℕ) → Code → Type 0
IsBound names p = (f : ℕ) → f < func_count p
    → number_among names (func_name_of p f) ≡ Some (function_number p f)

-- a function with its number in a table, and with 0 where its name isn't there
abbrev pub numbered : List (List ℕ) → Function → Function
numbered names f = record f { number = unwrap_or (number_among names f.name) 0 }

-- the same program, bound to a table
abbrev pub bound : List (List ℕ) → Code → Code
bound names p = record p { funcs = map (numbered names) p.funcs }

-- two programs differ in nothing but the numbers of their functions
pub record SameButNumbers (p q : Code) : Type 0 where
  pub locks : q.locks ≡ p.locks
  pub threads : q.threads ≡ p.threads
  pub count : func_count q ≡ func_count p
  pub names : func_names q.funcs ≡ func_names p.funcs
  pub locals : (f : ℕ) → locals_of q f ≡ locals_of p f
  pub ops : (f at : ℕ) → op_at q f at ≡ op_at p f at

-- binding changes nothing else
abbrev pub KeptLaw : Type 0
KeptLaw = (names : List (List ℕ)) (p : Code) → SameButNumbers p (bound names p)

-- bound to a table that has all names, a program has its numbers there
abbrev pub NumbersLaw : Type 0
NumbersLaw = (names : List (List ℕ)) (p : Code) → HasNames names (func_names p.funcs)
    → IsBound names (bound names p)

-- the last table counts
abbrev pub LastLaw : Type 0
LastLaw = (names others : List (List ℕ)) (p : Code) → bound names (bound others p) ≡ bound names p

-- the table of its own names has all names
abbrev pub OwnNamesLaw : Type 0
OwnNamesLaw = (p : Code) → HasNames (own_names p) (func_names p.funcs)
