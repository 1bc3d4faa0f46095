-- The calls of a machine, of which the newest comes first.
use Rattle.std.specs.Prelude.{◌≡◌, ℕ, ◌+◌, ◌<◌, ◌≤◌, nat_lt, if◌then◌else◌, List, [], ◌∷◌, length, map, pos, ℤ, replicate, take, reverse, slice_index_or, slice_set, Result, Ok, Err}
use Rattle.std.specs.List.{AllByRecursion}
use Rattle.dim_stack.specs.declared.Frame.{Frame}
use Rattle.dim_asm.specs.Code.{Code, function_number}
use Rattle.dim_vm.specs.declared.trap.Trap.{Trap}
use Rattle.dim_vm.specs.declared.trap.Trap.TheVariants.{Depth}
use Rattle.dim_vm.specs.declared.frames.CallFrame.{CallFrame}
use Rattle.dim_vm.specs.Tops.{rest}

-- a call of f at its first instruction
abbrev pub entered : ℕ → CallFrame
entered f = record { func = f; at = 0; locals = replicate 16 (pos 0) }

-- the newest call
abbrev pub top_frame : List CallFrame → CallFrame
top_frame [] = entered 0
top_frame (f ∷ fs) = f

-- with the newest at an offset
abbrev pub at_offset : ℕ → List CallFrame → List CallFrame
at_offset k fs = record (top_frame fs) { at = k } ∷ rest fs

-- with the newest at its next instruction
abbrev pub advanced : List CallFrame → List CallFrame
advanced fs = at_offset ((top_frame fs).at + 1) fs

-- a local of the newest
abbrev pub local : ℕ → List CallFrame → ℤ
local i fs = slice_index_or (top_frame fs).locals i (pos 0)

-- with n in a local of the newest
abbrev pub with_local : ℕ → ℤ → List CallFrame → List CallFrame
with_local i n fs = record (top_frame fs) { locals = slice_set (top_frame fs).locals i n } ∷ rest fs

-- with a call of f
abbrev pub enter : ℕ → List CallFrame → Result (List CallFrame) Trap
enter f fs = if nat_lt (length fs) 32 then Ok (entered f ∷ fs) else Err Depth

-- the frame of a call
abbrev pub frame_of : Code → CallFrame → Frame
frame_of p f = record { func = function_number p f.func; at = f.at }

-- the stack of some calls
abbrev pub stack_of : Code → List CallFrame → List Frame
stack_of p fs = map (frame_of p) fs

-- those below the newest are at a call, which has an offset
abbrev pub AreCallers : List CallFrame → Type 0
AreCallers fs = AllByRecursion (λ f. f.at < 65536) (rest fs)

-- how calls lie in their array
pub record AreFrames (len : ℕ) (frames : List CallFrame) : Type 0 where
  pub some : 1 ≤ len
  pub few : len ≤ 32
  pub size : length frames ≡ 32
  pub callers : AreCallers (reverse (take len frames))
