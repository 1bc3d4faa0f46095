-- The numbers of signatures, filed by the innermost frames of their stacks.
use Rattle.std.specs.Prelude.{◌≡◌, ◌⊎◌, ℕ, ◌<◌, true, List, [], length, Option, Some, None, slice_get, Vec}
use Rattle.std.specs.BTreeMap.{BTreeMap, get}
use Rattle.std.specs.declared.alloc.Global.{Global}
use Rattle.dim_stack.specs.declared.Frame.{Frame}
use Rattle.dim_stack.specs.Order.{frame_cmp}
use Rattle.dim_rag.specs.Born.{In}
use Rattle.dim_signature.specs.Sig.{Sig}

-- numbers, filed by frames
abbrev pub Files : Type 0
Files = BTreeMap Frame (Vec ℕ Global)

abbrev pub numbers_or_none : Option (Vec ℕ Global) → List ℕ
numbers_or_none None = []
numbers_or_none (Some v) = v.items

-- the numbers that are filed by a frame
abbrev pub filed : Files → Frame → List ℕ
filed files f = numbers_or_none (get frame_cmp files f)

-- of these numbers n is one more, unless it was there already
pub record GainsNumber (old new : List ℕ) (n : ℕ) : Type 0 where
  pub kept : (k : ℕ) → In k old → In k new
  pub only : (k : ℕ) → In k new → In k old ⊎ (k ≡ n)

-- the same of the numbers by each frame
abbrev pub Gains : Files → Files → ℕ → Type 0
Gains old new n = (f : Frame) → GainsNumber (filed old f) (filed new f) n

-- n is filed by the innermost frame of each of these stacks
abbrev pub IsFiled : Files → ℕ → List (List Frame) → Type 0
IsFiled files n stacks = (j : ℕ) (x : List Frame) (f : Frame) → slice_get stacks j ≡ Some x
    → slice_get x 0 ≡ Some f → In n (filed files f)

-- each switched-on signature is filed by the innermost frame of each of its stacks, and only
-- numbers of signatures are filed
pub record AreFiled (files : Files) (sigs : List Sig) : Type 0 where
  pub each : (i : ℕ) (s : Sig) → slice_get sigs i ≡ Some s → s.on ≡ true → IsFiled files i s.stacks
  pub only : (f : Frame) (n : ℕ) → In n (filed files f) → n < length sigs
