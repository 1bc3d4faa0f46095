-- The program that a number stands for, large, valid and not written by hand.
use Rattle.std.specs.Prelude.{ℕ, zero, suc, ◌+◌, ◌*◌, ◌/◌, ◌%◌, List, [], ◌∷◌, ◌++◌, map, pos, codes}
use Rattle.std.specs.Fmt.{decimal}
use Rattle.dim_asm.specs.declared.op.Op.{Op}
use Rattle.dim_asm.specs.declared.op.Op.TheVariants as op
use Rattle.dim_asm.specs.declared.start.Start.{Start}
use Rattle.dim_asm.specs.Code.{Code, Function}
use Rattle.dim_asm.specs.Printing.{program_text}
use Rattle.dim_schedule.specs.Drawn.{word_at}

-- the numbers from i on, so many of them
unfoldable pub from : ℕ → ℕ → List ℕ
from i zero = []
from i (suc n) = i ∷ from (suc i) n

-- a name: a letter, and the two digits of a number
abbrev pub numbered : List ℕ → ℕ → List ℕ
numbered letter n = letter ++ (decimal (n / 10) ++ decimal (n % 10))

-- the 16 locks l00 to l15
abbrev pub lock_name : ℕ → List ℕ
lock_name l = numbered (codes "l") l

-- of two words the first draws one lock, and the second draws another from the 15 others
abbrev pub first_lock : ℕ → ℕ
first_lock v = v % 16

abbrev pub second_lock : ℕ → ℕ → ℕ
second_lock v w = (first_lock v + 1 + w % 15) % 16

-- take both locks, and free them
abbrev pub taking : ℕ → ℕ → List Op
taking x y = op.Lock (record { 0 = x }) ∷ op.Lock (record { 0 = y }) ∷ op.Unlock (record { 0 = y })
    ∷ op.Unlock (record { 0 = x }) ∷ op.Ret ∷ []

-- call four functions, as many times as the argument says
abbrev pub looping : ℕ → ℕ → ℕ → ℕ → List Op
looping a b c d =
    op.PutL 0 ∷ op.GetL 0 ∷ op.Jz 12 ∷ op.Call a ∷ op.Call b ∷ op.Call c ∷ op.Call d ∷ op.GetL 0
    ∷ op.Push (pos 1) ∷ op.Sub ∷ op.PutL 0 ∷ op.Jmp 1 ∷ op.Ret ∷ []

-- function f00 to f31: word 2 * i and the next one draw its locks
abbrev pub taker : ℕ → ℕ → Function
taker n i = record {
  name = numbered (codes "f") i;
  locals = 0;
  number = i;
  ops = taking (first_lock (word_at n (2 * i))) (second_lock (word_at n (2 * i)) (word_at n (2 * i + 1)));
}

-- function m00 to m15: behind the 64 words of the others, four words draw which of them it calls
abbrev pub caller : ℕ → ℕ → Function
caller n i = record {
  name = numbered (codes "m") i;
  locals = 1;
  number = 32 + i;
  ops = looping (word_at n (64 + 4 * i) % 32) (word_at n (64 + 4 * i + 1) % 32) (word_at n (64 + 4 * i + 2) % 32) (word_at n (64 + 4 * i + 3) % 32);
}

-- each of the 16 callers runs in a thread of its own, with the argument 100
abbrev pub start : ℕ → Start
start i = record { func = 32 + i; argument = pos 100 }

-- The program of a number.
abbrev pub generated_program : ℕ → Code
generated_program n = record { locks = map lock_name (from 0 16); funcs = map (taker n) (from 0 32) ++ map (caller n) (from 0 16); threads = map start (from 0 16) }

-- its text
unfoldable pub generated_text : ℕ → List ℕ
generated_text n = program_text (generated_program n)
