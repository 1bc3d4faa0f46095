-- The gate and the machines with which a program begins.
use Rattle.std.specs.Prelude.{ℕ, zero, suc, ◌+◌, ◌-◌, min, List, [], ◌∷◌, ◌++◌, length}
use Rattle.dim_asm.specs.Code.{Code, thread_count, lock_count}
use Rattle.dim_signature.specs.Sig.{Sig}
use Rattle.dim_gate.specs.Gate.{Constants}
use Rattle.dim_vm.specs.Configuration.{Configuration, start}

-- how many signatures are learnt, at most, where so many were loaded: 48, and no more than make
-- 4,096
abbrev pub learnable : ℕ → ℕ
learnable loaded = min 48 (4096 - loaded)

-- the constants of a program's gate: its threads and locks, the signatures loaded, the depth of
-- those that are learnt, and room for these
abbrev pub gate_of : Code → List Sig → ℕ → Constants
gate_of p loaded depth = record { threads = thread_count p; locks = lock_count p; loaded = loaded; depth = depth; cap = length loaded + learnable (length loaded) }

-- the first n threads of a program at their start, each with so much fuel
abbrev pub starts : Code → ℕ → ℕ → List Configuration
starts p fuel zero = []
starts p fuel (suc n) = starts p fuel n ++ start p (record { 0 = n }) fuel ∷ []
