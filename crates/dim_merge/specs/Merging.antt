-- What two histories are as one.
use Rattle.std.specs.Prelude.{ℕ, ◌+◌, min, not, nat_le, ◌&&◌, Bool, if◌then◌else◌, List, ◌++◌, map, length, Option, Some, None, Result, Ok, Err}
use Rattle.std.specs.List.{filter, find}
use Rattle.dim_history_file.specs.Value.{NamedFrame, NamedSig, same_stacks, have_stacks}
use Rattle.dim_history_file.specs.Spelling.{history_text}
use Rattle.dim_merge.specs.declared.merging.MergeFault.{MergeFault}
use Rattle.dim_merge.specs.declared.merging.MergeFault.TheVariants.{Full, OutOfMemory}

abbrev pub yields_of : Option NamedSig → ℕ
yields_of None = 0
yields_of (Some s) = s.yields

-- how many yields signatures count for some stacks: 0 where none has them
abbrev pub yields_for : List NamedSig → List (List NamedFrame) → ℕ
yields_for sigs stacks = yields_of (find (λ s. same_stacks s.stacks stacks) sigs)

-- a signature with the yields that others count for its stacks, up to the highest number
abbrev pub with_yields : List NamedSig → NamedSig → NamedSig
with_yields others s = record s { yields = min (s.yields + yields_for others s.stacks) 4294967295 }

-- those of the others whose stacks none of the signatures has
abbrev pub unknown_to : List NamedSig → List NamedSig → List NamedSig
unknown_to sigs others = filter (λ s. not (have_stacks sigs s.stacks)) others

-- the first's signatures with the yields of both, and behind them those that only the second has
abbrev pub merged : List NamedSig → List NamedSig → List NamedSig
merged first second = map (with_yields second) first ++ unknown_to first second

-- how many signatures there are, and how many bytes their text has
pub record Size : Type 0 where
  pub signatures : ℕ
  pub bytes : ℕ

abbrev pub size_of : List NamedSig → Size
size_of sigs = record { signatures = length sigs; bytes = length (history_text sigs) }

-- a history has at most 4,096 signatures, and a run loads at most 6,291,456 bytes
abbrev pub is_loadable : Size → Bool
is_loadable size = nat_le size.signatures 4096 && nat_le size.bytes 6291456

-- signatures, or their size where they are too many or their text is too long
abbrev pub loadable : List NamedSig → Result (List NamedSig) Size
loadable sigs = if is_loadable (size_of sigs) then Ok sigs else Err (size_of sigs)

abbrev pub merge_of : List NamedSig → List NamedSig → Result (List NamedSig) Size
merge_of first second = loadable (merged first second)

-- the size that an error tells
abbrev pub told_size : MergeFault → Option Size
told_size (Full signatures bytes) = Some (record { signatures = signatures; bytes = bytes })
told_size OutOfMemory = None
