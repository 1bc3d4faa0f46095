-- The instruction words.
use Rattle.std.specs.Prelude.{ℕ, List, [], ◌∷◌, Option, find, codes}
use Rattle.std.specs.Option.{option_map}
use Rattle.std.specs.Str.{bytes_eq}
use Rattle.dim_asm.specs.declared.op.Op.{Op}
use Rattle.dim_asm.specs.declared.op.Op.TheVariants as op
use Rattle.dim_asm.specs.declared.mnemonic.Counting.{Counting}
use Rattle.dim_asm.specs.declared.mnemonic.Counting.TheVariants as counting
use Rattle.dim_asm.specs.declared.mnemonic.Naming.TheVariants as naming
use Rattle.dim_asm.specs.declared.mnemonic.Mnemonic.{Mnemonic}
use Rattle.dim_asm.specs.declared.mnemonic.Mnemonic.TheVariants.{Bare, Push, Counts, Names}

-- each word, and what it makes by the kind of its argument
abbrev pub rows : List (List ℕ × Mnemonic)
rows =
    (codes "PUSH", Push)
    ∷ (codes "POP", Bare op.Pop)
    ∷ (codes "DUP", Bare op.Dup)
    ∷ (codes "SWAP", Bare op.Swap)
    ∷ (codes "ADD", Bare op.Add)
    ∷ (codes "SUB", Bare op.Sub)
    ∷ (codes "LT", Bare op.Lt)
    ∷ (codes "EQ", Bare op.Eq)
    ∷ (codes "JMP", Counts counting.Jmp)
    ∷ (codes "JZ", Counts counting.Jz)
    ∷ (codes "GETL", Counts counting.GetL)
    ∷ (codes "PUTL", Counts counting.PutL)
    ∷ (codes "CALL", Names naming.Call)
    ∷ (codes "RET", Bare op.Ret)
    ∷ (codes "LOCK", Names naming.Lock)
    ∷ (codes "LOCKX", Bare op.LockX)
    ∷ (codes "UNLOCK", Names naming.Unlock)
    ∷ (codes "UNLOCKX", Bare op.UnlockX)
    ∷ (codes "TRYLOCK", Names naming.TryLock)
    ∷ (codes "SAY", Bare op.Say)
    ∷ (codes "HALT", Bare op.Halt)
    ∷ []

unfoldable pub mnemonic_of : List ℕ → Option Mnemonic
mnemonic_of word = option_map (λ row. row.1) (find (λ row. bytes_eq word row.0) rows)

-- the greatest number that may stand behind it
abbrev pub most_of : Counting → ℕ
most_of counting.Jmp = 65536
most_of counting.Jz = 65536
most_of counting.GetL = 255
most_of counting.PutL = 255

-- the instruction with this number
abbrev pub counted : Counting → ℕ → Op
counted counting.Jmp n = op.Jmp n
counted counting.Jz n = op.Jz n
counted counting.GetL n = op.GetL n
counted counting.PutL n = op.PutL n
