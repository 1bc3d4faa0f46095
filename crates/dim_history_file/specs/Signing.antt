-- The signature that a line opens, and a list of signatures that takes one more.
use Rattle.std.specs.Prelude.{List, length, [], ◌∷◌, ◌++◌, Result, Ok, Err, if◌then◌else◌}
use Rattle.std.specs.List.{list_any}
use Rattle.dim_stack.specs.declared.Frame.{Frame}
use Rattle.dim_signature.specs.Sig.{Sig}
use Rattle.dim_signature.specs.Catalogue.{has_stacks}
use Rattle.dim_history_file.specs.declared.opening.Opening.{Opening}
use Rattle.dim_history_file.specs.declared.fault.FileKind.{FileKind}
use Rattle.dim_history_file.specs.declared.fault.FileKind.TheVariants.{Double}

-- what the line of a signature says
abbrev pub line_for : Sig → Opening
line_for s = record { depth = s.depth; count = length s.stacks; on = s.on; yields = s.yields }

-- the signature that a line opens, with these stacks
abbrev pub opened : Opening → List (List Frame) → Sig
opened opening stacks = record { depth = opening.depth; stacks = stacks; on = opening.on; yields = opening.yields }

-- with one more behind them, if none has its stacks
abbrev pub entered : List Sig → Sig → Result (List Sig) FileKind
entered sigs s = if list_any (has_stacks s.stacks) sigs then Err Double else Ok (sigs ++ s ∷ [])
