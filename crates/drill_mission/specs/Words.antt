-- The words of a seed: those of the generator PCG XSH RR 64/32 (O'Neill, 2014) that the seed begins.
use Rattle.std.specs.Prelude.{ℕ, zero, suc}
use Rattle.rand_core.specs.Pcg32Seed.{pcg32_seed}
use Rattle.rand_pcg.specs.Lcg.{Lcg}
use Rattle.rand_pcg.specs.Pcg.{pcg32, pcg32_of_seed}

-- the word that a generator gives next
unfoldable pub next_word : Lcg → ℕ
next_word g = (pcg32 g).0

-- the generator after that word
unfoldable pub after_word : Lcg → Lcg
after_word g = (pcg32 g).1

-- the generator of a seed after so many words
unfoldable pub draws : ℕ → ℕ → Lcg
draws seed zero = pcg32_of_seed (pcg32_seed 16 seed)
draws seed (suc n) = after_word (draws seed n)

-- the word of that number, from 0
unfoldable pub word : ℕ → ℕ → ℕ
word seed n = next_word (draws seed n)
