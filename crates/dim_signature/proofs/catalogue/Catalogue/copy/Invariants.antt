use Rattle.std.proofs.Common.{◌≡◌, take}
use Rattle.dim_signature.proofs.catalogue.Catalogue.copy.Given as goal

-- the signatures so far are copied
abbrev pub invariant-loop-sig : goal.invariant-loop-sig
invariant-loop-sig l = l.list.items ≡ take l.sig-index l.sig-items
