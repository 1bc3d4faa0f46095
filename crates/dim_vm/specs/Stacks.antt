-- The stacks with which threads ask, and where their frames are in a program.
use Rattle.std.specs.Prelude.{◌≡◌, ℕ, ◌<◌, ◌≤◌, All, IsSome, List, [], length}
use Rattle.dim_stack.specs.declared.Frame.{Frame}
use Rattle.dim_asm.specs.Code.{Code, IsProgram, function_number, op_at}
use Rattle.dim_asm.specs.Bound.{IsBound}
use Rattle.dim_rag.specs.declared.entry.Entry.{Entry}
use Rattle.dim_rag.specs.declared.entry.Entry.TheVariants.{Go, Yield, Took, Miss}
use Rattle.dim_vm.specs.Walks.{Walks}

-- the stack with which a thread asked, if the entry has one
abbrev pub stack_with : Entry → List Frame
stack_with (Go t l s) = s
stack_with (Yield t l s sig births) = s
stack_with (Took t l s) = s
stack_with (Miss t l s why) = s
stack_with _ = []

-- a frame is at an instruction: its number is that of a function which has an instruction at its
-- offset
pub record IsAtInstruction (p : Code) (frame : Frame) : Type 0 where
  pub func : ℕ
  pub number : frame.func ≡ function_number p func
  pub there : IsSome (op_at p func frame.at)

-- in a walk each frame of each stack is at an instruction
abbrev pub AskedLaw : Type 0
AskedLaw = (p : Code) (fuel : ℕ) (h : List Entry) → Walks p fuel h
    → All (λ e. All (IsAtInstruction p) (stack_with e)) h

-- where a program is bound to a table of names, a frame at an instruction has a name in the table,
-- and no offset is above 65,535
abbrev pub NamedLaw : Type 0
NamedLaw = (names : List (List ℕ)) (p : Code) (frame : Frame) → IsProgram p → IsBound names p
    → IsAtInstruction p frame → (frame.func < length names) × (frame.at ≤ 65535)
