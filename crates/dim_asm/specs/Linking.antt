-- The second pass: numbers for names.
use Rattle.std.specs.Prelude.{ℕ, ◌+◌, ◌*◌, Bool, false, nat_lt, List, [], ◌∷◌, length, Result, Ok}
use Rattle.dim_text.specs.Reading.{◌>>=◌, or_else, in_line}
use Rattle.dim_text.specs.Words.{unless}
use Rattle.dim_asm.specs.declared.op.Op.{Op}
use Rattle.dim_asm.specs.declared.op.Op.TheVariants as op
use Rattle.dim_asm.specs.declared.fault.AsmKind.{AsmKind}
use Rattle.dim_asm.specs.declared.fault.AsmKind.TheVariants.{Unknown, Shape}
use Rattle.dim_asm.specs.declared.fault.AsmFault.{AsmFault}
use Rattle.dim_asm.specs.declared.mnemonic.Naming.{Naming}
use Rattle.dim_asm.specs.declared.mnemonic.Naming.TheVariants as naming
use Rattle.dim_asm.specs.declared.start.Start.{Start}
use Rattle.dim_asm.specs.Faults.{fault}
use Rattle.dim_asm.specs.Code.{Code, Function, place_of}
use Rattle.dim_asm.specs.Source.{Source, Draft, Ready, Refers, DraftFunction, DraftStart, names_of, draft_count}

-- the names of the locks and of the functions
pub record Tables : Type 0 where
  pub locks : List (List ℕ)
  pub names : List (List ℕ)

-- whether an instruction jumps past the end of a function of this size
abbrev pub leaves : ℕ → Op → Bool
leaves size (op.Jmp k) = nat_lt size k
leaves size (op.Jz k) = nat_lt size k
leaves size _ = false

-- the names among which a reference looks, and the instruction with the number found
abbrev pub looks_in : Tables → Naming → List (List ℕ)
looks_in t naming.Call = t.names
looks_in t naming.Lock = t.locks
looks_in t naming.Unlock = t.locks
looks_in t naming.TryLock = t.locks

abbrev pub referring : Naming → ℕ → Op
referring naming.Call n = op.Call n
referring naming.Lock n = op.Lock (record { 0 = n })
referring naming.Unlock n = op.Unlock (record { 0 = n })
referring naming.TryLock n = op.TryLock (record { 0 = n })

-- the instruction of a draft, in a function of this size
unfoldable pub link_draft : Tables → ℕ → Draft → Result Op AsmKind
link_draft t size (Ready op) = unless (leaves size op) Shape >>= λ _. Ok op
link_draft t size (Refers naming name) = or_else (place_of (looks_in t naming) name) Unknown >>= λ n. Ok (referring naming n)

unfoldable pub link_start : Tables → DraftStart → Result Start AsmKind
link_start t start = or_else (place_of t.names start.func) Unknown >>= λ f. Ok (record { func = f; argument = start.argument })

-- each of these, where the first stands in line n
unfoldable pub each_line : {A B : Type 0} → (A → Result B AsmKind) → ℕ → List A
    → Result (List B) AsmFault
each_line link n [] = Ok []
each_line link n (x ∷ xs) = do
  y ← in_line fault n (link x)
  ys ← each_line link (n + 1) xs
  Ok (y ∷ ys)

-- a function, which begins in line n; it has the number 0 until the program is bound to a table of
-- names
unfoldable pub link_function : Tables → ℕ → DraftFunction → Result Function AsmFault
link_function t n f = do
  ops ← each_line (link_draft t (length f.drafts)) (n + 1) f.drafts
  Ok (record { name = f.name; locals = f.locals; number = 0; ops = ops })

-- the functions, where the first begins in line n
unfoldable pub link_functions : Tables → ℕ → List DraftFunction → Result (List Function) AsmFault
link_functions t n [] = Ok []
link_functions t n (f ∷ funcs) = do
  func ← link_function t n f
  rest ← link_functions t (n + length f.drafts + 2) funcs
  Ok (func ∷ rest)

-- the lines of the first function and of the first thread
abbrev pub first_function : Source → ℕ
first_function s = 2 + length s.locks

abbrev pub first_thread : Source → ℕ
first_thread s = first_function s + draft_count s.funcs + 2 * length s.funcs

abbrev pub tables_of : Source → Tables
tables_of s = record { locks = s.locks; names = names_of s }

-- the program that a source says, bound to no table yet, or the first fault of the second pass
unfoldable pub link : Source → Result Code AsmFault
link s = do
  funcs ← link_functions (tables_of s) (first_function s) s.funcs
  threads ← each_line (link_start (tables_of s)) (first_thread s) s.threads
  Ok (record { locks = s.locks; funcs = funcs; threads = threads })
