-- Texts by their words: what stands between spaces and line ends.
use Rattle.std.proofs.Common.{◌≡◌, ℕ, zero, suc, ◌/◌, ◌%◌, ℤ, pos, negsuc, Bool, true, false, cond, nat_eq, ◌||◌, List, [], ◌∷◌, ◌++◌, refl, sym, ap, ◌∙◌, append_assoc, append-nil, arith}
use Rattle.std.proofs.lemmas.Bool.Decides.{nat_tests}
use Rattle.std.proofs.lemmas.Bool.{and_parts}
use Rattle.std.specs.List.{AllByRecursion, list_all}
use Rattle.std.specs.Fmt.{decimal, signed_decimal, digits, digits_onto, digit_glyph}
use Rattle.hs_base.specs.Names.{IsName, is_name_byte}

abbrev pub Word : Type 0
Word = List ℕ

-- a space or a line end
abbrev pub ends_word : ℕ → Bool
ends_word c = nat_eq c 32 || nat_eq c 10

-- a word has none
abbrev pub IsWord : Word → Type 0
IsWord w = AllByRecursion (λ c. ends_word c ≡ false) w

-- the words of bytes, where `word` is begun
abbrev pub words_from : Word → List ℕ → List Word
words_from word [] = word ∷ []
words_from word (c ∷ cs) = cond (ends_word c) (word ∷ words_from [] cs) (words_from (word ++ c ∷ []) cs)

abbrev pub words : List ℕ → List Word
words bytes = words_from [] bytes

from_word : (begun w rest : List ℕ) → IsWord w → words_from begun (w ++ rest) ≡ words_from (begun ++ w) rest
from_word begun [] rest h = ap (λ (b : Word). words_from b rest) (sym (append-nil begun))
from_word begun (c ∷ w) rest h =
    ap (λ (b : Bool). cond b (begun ∷ words (w ++ rest)) (words_from (begun ++ c ∷ []) (w ++ rest))) h.0
    ∙ from_word (begun ++ c ∷ []) w rest h.1
    ∙ ap (λ (b : Word). words_from b rest) (append_assoc begun (c ∷ []) w)

-- a word and what ends it
pub then_end : (w : List ℕ) (c : ℕ) (rest : List ℕ) → IsWord w → ends_word c ≡ true → words (w ++ c ∷ rest) ≡ w ∷ words rest
then_end w c rest h e = from_word [] w (c ∷ rest) h ∙ ap (λ (b : Bool). cond b (w ∷ words rest) (words_from (w ++ c ∷ []) rest)) e

-- Names and numbers are words.

name_byte : (c : ℕ) → is_name_byte c ≡ true → ends_word c ≡ false
name_byte c h = grind (arith, nat_tests)

name_bytes : (w : Word) → list_all is_name_byte w ≡ true → IsWord w
name_bytes [] h = tt
name_bytes (c ∷ w) h = let k = and_parts _ _ h in (name_byte c k.0, name_bytes w k.1)

pub name_word : (w : Word) → IsName w → IsWord w
name_word w h = name_bytes w h.bytes

glyph_word : (d : ℕ) → ends_word (digit_glyph false d) ≡ false
glyph_word d = grind (arith, nat_tests)

digits_word : (k n : ℕ) (ds : Word) → IsWord ds → IsWord (digits_onto k 10 false n ds)
digits_word zero n ds h = h
digits_word (suc k) n ds h = elim (nat_eq (n / 10) 0) as (λ b. IsWord (cond b (digit_glyph false (n % 10) ∷ ds) (digits_onto k 10 false (n / 10) (digit_glyph false (n % 10) ∷ ds)))) [
  | true ↦ (glyph_word (n % 10), h)
  | false ↦ digits_word k (n / 10) (digit_glyph false (n % 10) ∷ ds) (glyph_word (n % 10), h)
]

pub decimal_word : (n : ℕ) → IsWord (decimal n)
unfolding digits
decimal_word n = digits_word 64 n [] tt

pub signed_word : (z : ℤ) → IsWord (signed_decimal z)
signed_word (pos n) = decimal_word n
signed_word (negsuc n) = (refl, decimal_word (suc n))
