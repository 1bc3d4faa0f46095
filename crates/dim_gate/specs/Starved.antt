-- What may be learnt, and what is to be learnt before a Break.
use Rattle.std.specs.Prelude.{ℕ, ◌+◌, nat_lt, Bool, ◌&&◌, if◌then◌else◌, List, length, Option, Some, None, is_none}
use Rattle.std.specs.Option.{option_and_then}
use Rattle.dim_rag.specs.declared.entry.Entry.{Entry}
use Rattle.dim_rag.specs.Certificate.{cycle_fault}
use Rattle.dim_rag.specs.Starvation.{starvation_fault, starved}
use Rattle.dim_signature.specs.Sig.{Sig}
use Rattle.dim_signature.specs.Catalogue.{signature_number}
use Rattle.dim_gate.specs.Known.{stacks_of}

-- where places are neither the births of a cycle nor those of a starvation, the first position that
-- keeps them from being a cycle's
abbrev pub learn_fault : ℕ → ℕ → List Entry → List ℕ → Option ℕ
learn_fault n m h births = if is_none (starvation_fault n m h births) then None else cycle_fault n m h births

-- how many places are to stay free behind a Learn: none behind that of a cycle, and 16, for cycles,
-- behind that of a starvation
abbrev pub kept_free : ℕ → ℕ → List Entry → List ℕ → ℕ
kept_free n m h births = if is_none (cycle_fault n m h births) then 0 else 16

-- whether the starvation with these births is to be learnt, where sigs are known and at most cap
-- may be: its signature isn't known, and 16 places stay free behind its Learn
abbrev pub is_unlearnt : ℕ → List Sig → List Entry → List ℕ → Bool
is_unlearnt cap sigs h births = is_none (signature_number sigs (stacks_of births h))
    && nat_lt (length sigs + 16) cap

-- these births, if the starvation is to be learnt
abbrev pub if_unlearnt : ℕ → List Sig → List Entry → List ℕ → Option (List ℕ)
if_unlearnt cap sigs h births = if is_unlearnt cap sigs h births then Some births else None

-- the births of the starvation of a set, among n threads and m locks, if it has one and that is to
-- be learnt
abbrev pub unlearnt : ℕ → ℕ → ℕ → List Sig → List Entry → ℕ → Option (List ℕ)
unlearnt n m cap sigs h set = option_and_then (if_unlearnt cap sigs h) (starved n m h set)
