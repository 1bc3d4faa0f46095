-- The words of a seed, and what is drawn from them.
use Rattle.std.specs.Prelude.{ℕ, zero, suc, ◌+◌, ◌%◌, ◌==◌, if◌then◌else◌, Option, Some, None}
use Rattle.rand_core.specs.Pcg32Seed.{pcg32_seed}
use Rattle.rand_pcg.specs.Lcg.{Lcg}
use Rattle.rand_pcg.specs.Pcg.{pcg32, pcg32_of_seed}

-- the generator that a seed makes
unfoldable pub generator : ℕ → Lcg
generator seed = pcg32_of_seed (pcg32_seed 16 seed)

-- the next word of a generator, of 32 bits
unfoldable pub word : Lcg → ℕ
word g = (pcg32 g).0

-- the generator after n words
unfoldable pub after : ℕ → Lcg → Lcg
after zero g = g
after (suc n) g = (pcg32 (after n g)).1

-- the word at place p of a seed, the first at place 0
abbrev pub word_at : ℕ → ℕ → ℕ
word_at seed p = word (after p (generator seed))

-- the words that a run with this seed draws from: none with seed 0
abbrev pub words_of : ℕ → Option Lcg
words_of seed = if seed == 0 then None else Some (generator seed)

-- what is left of them after n more
abbrev pub later : ℕ → Option Lcg → Option Lcg
later n None = None
later n (Some g) = Some (after n g)

-- the thread at which a round of n threads begins: the first one, or that of the next word
abbrev pub first_by : ℕ → Option Lcg → ℕ
first_by n None = 0
first_by n (Some g) = word g % n

-- the most moves of a slice: the quantum, or that of the next word, from 1 to the quantum
abbrev pub moves_by : ℕ → Option Lcg → ℕ
moves_by q None = q
moves_by q (Some g) = 1 + word g % q
