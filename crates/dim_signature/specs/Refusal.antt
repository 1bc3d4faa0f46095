-- Why there is no signature, and why a catalogue takes none.
use Rattle.std.specs.Prelude.{ℕ, nat_lt, nat_le, ◌&&◌, if◌then◌else◌, List, length, Option, Some, None}
use Rattle.dim_stack.specs.declared.Frame.{Frame}
use Rattle.dim_signature.specs.declared.signature.SigFault.{SigFault}
use Rattle.dim_signature.specs.declared.signature.SigFault.TheVariants.{TooFew, TooMany, BadDepth}
use Rattle.dim_signature.specs.declared.catalogue.Add.{Add}
use Rattle.dim_signature.specs.declared.catalogue.Add.TheVariants.{Known, Full}
use Rattle.dim_signature.specs.Sig.{Sig}
use Rattle.dim_signature.specs.Catalogue.{signature_number}

-- why this depth and so many stacks make no signature, the first cause that applies
abbrev pub fault_of : ℕ → ℕ → Option SigFault
fault_of depth count =
    if nat_lt count 2 then Some (TooFew count)
    else (if nat_lt 32 count then Some (TooMany count)
    else (if nat_le 1 depth && nat_le depth 32 then None
    else Some (BadDepth depth)))

abbrev refused : Option ℕ → ℕ → Option Add
refused (Some index) count = Some (Known index)
refused None count = if nat_lt count 4096 then None else Some Full

-- why signatures take no more one with these stacks: it is known, or there are 4,096
abbrev pub refusal_of : List Sig → List (List Frame) → Option Add
refusal_of sigs stacks = refused (signature_number sigs stacks) (length sigs)
