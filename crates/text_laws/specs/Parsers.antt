-- Reading pieces from left to right.
use Rattle.std.specs.Prelude.{ℕ, zero, suc, Bool, false, cond, nat_eq, ℤ, List, [], ◌∷◌, length, Option, Some, None, codes}
use Rattle.std.specs.Str.{bytes_eq, byte}
use Prim.Native.String.{String}
use Rattle.hs_texts.specs.Pieces.{Piece, word, symbol}
use Rattle.hs_texts.specs.Languages.{word_says, symbol_says, number_says}

-- a value and the pieces left behind its own, or the pieces at which reading is stuck
pub data Read (A : Type 0) : Type 0 where
  done : A → List Piece → Read A
  stuck : List Piece → Read A

abbrev pub Parser : Type 0 → Type 0
Parser A = List Piece → Read A

-- the piece that is next
abbrev pub next : List Piece → Option Piece
next [] = None
next (p ∷ ps) = Some p

-- go on behind what was read
abbrev pub go_on : {A B : Type 0} → Read A → (A → Parser B) → Read B
go_on (done x rest) f = f x rest
go_on (stuck rest) f = stuck rest

infixl 10 ◌>>=◌
abbrev pub ◌>>=◌ : {A B : Type 0} → Parser A → (A → Parser B) → Parser B
p >>= f = λ ps. go_on (p ps) f

abbrev pub yields : {A : Type 0} → A → Parser A
yields value = λ ps. done value ps

-- one piece
abbrev pub said : {A : Type 0} → Option A → Piece → List Piece → Read A
said None p ps = stuck (p ∷ ps)
said (Some x) p ps = done x ps

abbrev pub one : {A : Type 0} → (Piece → Option A) → Parser A
one says [] = stuck []
one says (p ∷ ps) = said (says p) p ps

-- whether a piece is a keyword, or a symbol
abbrev pub is_word : List ℕ → Option Piece → Bool
is_word sought (Some (word w)) = bytes_eq w sought
is_word sought _ = false

abbrev pub is_sign : ℕ → Option Piece → Bool
is_sign sought (Some (symbol c)) = nat_eq c sought
is_sign sought _ = false

-- the one or the other, by what is next
abbrev pub choose : {A : Type 0} → (Option Piece → Bool) → Parser A → Parser A → Parser A
choose test p q = λ ps. cond (test (next ps)) (p ps) (q ps)

-- items while one is next; n is at least the number of pieces
abbrev pub items : {A : Type 0} → (Option Piece → Bool) → Parser A → ℕ → Parser (List A)
items test p zero ps = done [] ps
items test p (suc n) ps = cond (test (next ps)) (go_on (p ps) (λ x rest. go_on (items test p n rest) (λ xs. yields (x ∷ xs)))) (done [] ps)

unfoldable pub many : {A : Type 0} → (Option Piece → Bool) → Parser A → Parser (List A)
many test p ps = items test p (length ps) ps

abbrev pub keyword : String → Parser (Unit {0})
keyword w = one (word_says (codes w))

abbrev pub sign : String → Parser (Unit {0})
sign c = one (symbol_says (byte c))

abbrev pub number : Parser ℤ
number = one number_says

-- p behind a keyword, and behind a symbol
abbrev pub after : {A : Type 0} → String → Parser A → Parser A
after w p = keyword w >>= (λ _. p)

abbrev pub behind : {A : Type 0} → String → Parser A → Parser A
behind c p = sign c >>= (λ _. p)

-- what begins with a keyword, or else this value
abbrev pub maybe_after : {A : Type 0} → String → Parser A → A → Parser A
maybe_after w p value = choose (is_word (codes w)) (after w p) (yields value)

-- one or more, each of which begins with the keyword
abbrev pub several : {A : Type 0} → String → Parser A → Parser (List A)
several w p = do
  first ← p
  others ← many (is_word (codes w)) p
  yields (first ∷ others)

-- one or more, with a symbol between them
abbrev pub apart : {A : Type 0} → String → Parser A → Parser (List A)
apart c p = do
  first ← p
  others ← many (is_sign (byte c)) (behind c p)
  yields (first ∷ others)
