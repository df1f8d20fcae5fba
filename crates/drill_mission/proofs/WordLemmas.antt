-- The words of a seed, one after another.
use Rattle.std.proofs.Common.{◌≡◌, ℕ, ◌+◌, ◌*◌, refl, ap, ◌∙◌, arith, add-one}
use Rattle.drill_mission.specs.Words.{after_word, draws, next_word, word}

-- a word is what the generator gives after those before it
pub word_is : (seed n : ℕ) → word seed n ≡ next_word (draws seed n)
unfolding word
word_is seed n = refl

-- and the generator goes on from there
pub draws_more : (seed n : ℕ) → draws seed (n + 1) ≡ after_word (draws seed n)
unfolding draws
draws_more seed n = ap (draws seed) (add-one n)

-- two words on
pub draws_two_more : (seed n : ℕ) → draws seed (2 * (n + 1)) ≡ after_word (after_word (draws seed (2 * n)))
draws_two_more seed n =
    let e : 2 * (n + 1) ≡ 2 * n + 1 + 1 = omega arith in
    ap (draws seed) e ∙ draws_more seed (2 * n + 1) ∙ ap after_word (draws_more seed (2 * n))

-- the word after the next one
pub word_after : (seed n : ℕ) → word seed (n + 1) ≡ next_word (after_word (draws seed n))
word_after seed n = word_is seed (n + 1) ∙ ap next_word (draws_more seed n)
