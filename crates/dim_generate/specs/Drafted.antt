-- How the functions of a generated program stand in its text: with the names of locks and
-- functions.
use Rattle.std.specs.Prelude.{ℕ, ◌+◌, ◌*◌, ◌%◌, [], ◌∷◌, ◌++◌, map, pos, codes}
use Rattle.rand_pcg.specs.Lcg.{Lcg}
use Rattle.dim_asm.specs.declared.op.Op.TheVariants as op
use Rattle.dim_asm.specs.declared.mnemonic.Naming.TheVariants as naming
use Rattle.dim_asm.specs.Source.{Source, Draft, Ready, Refers, DraftFunction, DraftStart}
use Rattle.dim_schedule.specs.Drawn.{word, after}
use Rattle.dim_generate.specs.Generated.{from, numbered, lock_name, first_lock, second_lock}

-- a call of the function f of this number
abbrev pub called : ℕ → Draft
called f = Refers naming.Call (numbered (codes "f") f)

abbrev pub taker_draft : ℕ → ℕ → ℕ → DraftFunction
taker_draft i x y = record {
  name = numbered (codes "f") i;
  locals = 0;
  drafts = Refers naming.Lock (lock_name x) ∷ Refers naming.Lock (lock_name y)
      ∷ Refers naming.Unlock (lock_name y) ∷ Refers naming.Unlock (lock_name x) ∷ Ready op.Ret ∷ [];
}

abbrev pub caller_draft : ℕ → ℕ → ℕ → ℕ → ℕ → DraftFunction
caller_draft i a b c d = record {
  name = numbered (codes "m") i;
  locals = 1;
  drafts =
      Ready (op.PutL 0) ∷ Ready (op.GetL 0) ∷ Ready (op.Jz 12) ∷ called a ∷ called b ∷ called c
      ∷ called d
      ∷ Ready (op.GetL 0) ∷ Ready (op.Push (pos 1)) ∷ Ready op.Sub ∷ Ready (op.PutL 0)
      ∷ Ready (op.Jmp 1) ∷ Ready op.Ret ∷ [];
}

-- the word of a generator that comes after p others
abbrev pub word_in : Lcg → ℕ → ℕ
word_in g p = word (after p g)

-- the functions whose locks, and whose calls, are drawn from a generator
abbrev pub taker_of : Lcg → ℕ → DraftFunction
taker_of g i = taker_draft i (first_lock (word_in g (2 * i))) (second_lock (word_in g (2 * i)) (word_in g (2 * i + 1)))

abbrev pub caller_of : Lcg → ℕ → DraftFunction
caller_of g i = caller_draft i (word_in g (4 * i) % 32) (word_in g (4 * i + 1) % 32) (word_in g (4 * i + 2) % 32) (word_in g (4 * i + 3) % 32)

abbrev pub started : ℕ → DraftStart
started i = record { func = numbered (codes "m") i; argument = pos 100 }

unfoldable pub generated_source : Lcg → Source
generated_source g = record { locks = map lock_name (from 0 16); funcs = map (taker_of g) (from 0 32) ++ map (caller_of (after 64 g)) (from 0 16); threads = map started (from 0 16) }
