-- What instructions do to the operands, of which the newest comes first.
use Rattle.std.specs.Prelude.{ℕ, nat_lt, nat_eq, Bool, false, if◌then◌else◌, List, [], ◌∷◌, length, Result, Ok, Err, ℤ, pos, negsuc, ◌+ℤ◌, ◌-ℤ◌, ◌^◌}
use lib.Signed.{lt_z}
use Rattle.dim_base.specs.declared.Lid.{Lid}
use Rattle.dim_vm.specs.declared.trap.Trap.{Trap}
use Rattle.dim_vm.specs.declared.trap.Trap.TheVariants.{Under, Over, Sum, NoLock}
use Rattle.dim_vm.specs.Tops.{rest}
use Rattle.dim_vm.specs.Trap.{◌>>=◌}

-- the newest
abbrev pub top : List ℤ → Result ℤ Trap
top [] = Err Under
top (n ∷ ns) = Ok n

-- the two newest, the older one first
abbrev pub pair : List ℤ → Result (ℤ × ℤ) Trap
pair (b ∷ a ∷ ns) = Ok (a, b)
pair _ = Err Under

abbrev pub push : ℤ → List ℤ → Result (List ℤ) Trap
push n ns = if nat_lt (length ns) 256 then Ok (n ∷ ns) else Err Over

abbrev pub pop : List ℤ → Result (List ℤ) Trap
pop ns = top ns >>= λ n. Ok (rest ns)

abbrev pub duplicate : List ℤ → Result (List ℤ) Trap
duplicate ns = top ns >>= λ n. push n ns

abbrev pub swap : List ℤ → Result (List ℤ) Trap
swap ns = pair ns >>= λ ab. Ok (ab.0 ∷ ab.1 ∷ rest (rest ns))

-- a number in the place of the two newest, of which it is made
abbrev pub calculate : (ℤ → ℤ → Result ℤ Trap) → List ℤ → Result (List ℤ) Trap
calculate f ns = pair ns >>= λ ab. f ab.0 ab.1 >>= λ n. Ok (n ∷ rest (rest ns))

abbrev pub fits_64 : ℤ → Bool
fits_64 (pos n) = nat_lt n (2 ^ 63)
fits_64 (negsuc n) = nat_lt n (2 ^ 63)

-- a number of 64 signed bits
abbrev pub in_64 : ℤ → Result ℤ Trap
in_64 n = if fits_64 n then Ok n else Err Sum

abbrev pub sum : ℤ → ℤ → Result ℤ Trap
sum a b = in_64 (a +ℤ b)

abbrev pub difference : ℤ → ℤ → Result ℤ Trap
difference a b = in_64 (a -ℤ b)

abbrev pub one_if : Bool → ℤ
one_if b = if b then pos 1 else pos 0

abbrev pub is_less : ℤ → ℤ → Result ℤ Trap
is_less a b = Ok (one_if (lt_z a b))

abbrev pub same : ℤ → ℤ → Bool
same (pos m) (pos n) = nat_eq m n
same (negsuc m) (negsuc n) = nat_eq m n
same _ _ = false

abbrev pub is_equal : ℤ → ℤ → Result ℤ Trap
is_equal a b = Ok (one_if (same a b))

abbrev pub is_zero : ℤ → Bool
is_zero (pos n) = nat_eq n 0
is_zero (negsuc n) = false

-- the lock with a number
abbrev pub lock_number : ℕ → ℤ → Result Lid Trap
lock_number locks (pos n) = if nat_lt n locks then Ok (record { 0 = n }) else Err NoLock
lock_number locks (negsuc n) = Err NoLock

-- the lock whose number is the newest
abbrev pub lock_operand : ℕ → List ℤ → Result Lid Trap
lock_operand locks ns = top ns >>= λ n. lock_number locks n
