-- What a history means: its signatures, with functions read as names.
use Rattle.std.specs.Prelude.{◌≡◌, ℕ, Bool, true, nat_eq, All, List, Some, map}
use Rattle.std.specs.Option.{unwrap_or}
use Rattle.std.specs.List.{flat_map, list_any}
use Rattle.std.specs.Ordering.{nat_cmp, on, then_cmp, eq_of_both}
use Rattle.std.specs.declared.cmp.Ordering.{Ordering}
use Rattle.std.specs.Cmp.Lexicographic.{slice_cmp, pointwise}
use Rattle.std.specs.Str.{bytes_eq}
use Rattle.dim_stack.specs.declared.Frame.{Frame}
use Rattle.dim_stack.specs.Names.{name_cmp, name_of, name_number, IsNamedBy}
use Rattle.dim_signature.specs.Sig.{Sig}

pub record NamedFrame : Type 0 where
  pub name : List ℕ
  pub at : ℕ

pub record NamedSig : Type 0 where
  pub depth : ℕ
  pub stacks : List (List NamedFrame)
  pub on : Bool
  pub yields : ℕ

-- numbers read as the names of a table
abbrev pub named_frame : List (List ℕ) → Frame → NamedFrame
named_frame names f = record { name = name_of names f.func; at = f.at }

abbrev pub named_stack : List (List ℕ) → List Frame → List NamedFrame
named_stack names stack = map (named_frame names) stack

abbrev pub named_sig : List (List ℕ) → Sig → NamedSig
named_sig names s = record { depth = s.depth; stacks = map (named_stack names) s.stacks; on = s.on; yields = s.yields }

abbrev pub named : List (List ℕ) → List Sig → List NamedSig
named names sigs = map (named_sig names) sigs

-- for each name of a table, its number in another
abbrev pub AreNumbersIn : List (List ℕ) → List (List ℕ) → List ℕ → Type 0
AreNumbersIn to from numbers = map (λ n. Some n) numbers ≡ map (name_number to) from

-- names read as their numbers in a table
abbrev pub numbered_frame : List (List ℕ) → NamedFrame → Frame
numbered_frame names f = record { func = unwrap_or (name_number names f.name) 0; at = f.at }

abbrev pub numbered_stack : List (List ℕ) → List NamedFrame → List Frame
numbered_stack names stack = map (numbered_frame names) stack

abbrev pub numbered_sig : List (List ℕ) → NamedSig → Sig
numbered_sig names s = record { depth = s.depth; stacks = map (numbered_stack names) s.stacks; on = s.on; yields = s.yields }

abbrev pub numbered : List (List ℕ) → List NamedSig → List Sig
numbered names sigs = map (numbered_sig names) sigs

-- the signatures with all states on and no yields
abbrev pub renewed : NamedSig → NamedSig
renewed s = record s { on = true; yields = 0 }

abbrev pub migrated : List NamedSig → List NamedSig
migrated sigs = map renewed sigs

-- each function of each stack stands in the table
abbrev pub AreNamed : List (List ℕ) → List Sig → Type 0
AreNamed names sigs = All (λ s. All (IsNamedBy names) s.stacks) sigs

-- the names that stacks use, one for each frame
abbrev pub names_of_stack : List NamedFrame → List (List ℕ)
names_of_stack stack = map (λ f. f.name) stack

abbrev pub names_used : List NamedSig → List (List ℕ)
names_used sigs = flat_map (λ s. flat_map names_of_stack s.stacks) sigs

-- frames are compared by name and then by offset, stacks frame by frame, and a proper prefix comes
-- first
abbrev pub frame_order : NamedFrame → NamedFrame → Ordering
frame_order = then_cmp (on (λ f. f.name) name_cmp) (on (λ f. f.at) nat_cmp)

abbrev pub stack_order : List NamedFrame → List NamedFrame → Ordering
stack_order = slice_cmp frame_order

-- whether frames, stacks and lists of stacks are equal
abbrev pub same_frame : NamedFrame → NamedFrame → Bool
same_frame = eq_of_both (on (λ f. f.name) bytes_eq) (on (λ f. f.at) nat_eq)

abbrev pub same_stacks : List (List NamedFrame) → List (List NamedFrame) → Bool
same_stacks = pointwise (pointwise same_frame)

-- whether a signature has these stacks
abbrev pub have_stacks : List NamedSig → List (List NamedFrame) → Bool
have_stacks sigs stacks = list_any (λ s. same_stacks s.stacks stacks) sigs
