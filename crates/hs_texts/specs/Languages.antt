-- Languages: which lists of pieces spell which values.
use Rattle.std.specs.Prelude.{◌≡◌, ◌⊎◌, ℕ, ◌+◌, ◌<◌, ◌≤◌, cond, pos, ℤ, List, [], ◌∷◌, ◌++◌, length, take, Option, Some, None, codes, nat_eq}
use Rattle.std.specs.Str.{bytes_eq, byte}
use Prim.Native.String.{String}
use Rattle.hs_texts.specs.Pieces.{Piece, word, number, symbol, number_of, Placed, pieces_of, place_in}

-- R ps x: the pieces are a sentence of R that says x
abbrev pub Language : Type 0 → Type 1
Language A = List Piece → A → Type 0

-- one piece, and what it says
abbrev pub One : {A : Type 0} → (Piece → Option A) → Language A
One {A} says ps x = (p : Piece) × (ps ≡ p ∷ []) × (says p ≡ Some x)

-- no piece, and this value
abbrev pub Yields : {A : Type 0} → A → Language A
Yields value ps x = (ps ≡ []) × (x ≡ value)

-- a sentence of R, and behind it one of what its value asks for
pub record Then {A B : Type 0} (R : Language A) (S : A → Language B) (ps : List Piece) (y : B) : Type 0 where
  pub front : List Piece
  pub back : List Piece
  pub value : A
  pub first : R front value
  pub second : S value back y
  pub joined : ps ≡ front ++ back

infixl 10 ◌>>=◌
abbrev pub ◌>>=◌ : {A B : Type 0} → Language A → (A → Language B) → Language B
R >>= S = Then R S

-- a sentence of the one or of the other
infixr 12 ◌∣◌
abbrev pub ◌∣◌ : {A : Type 0} → Language A → Language A → Language A
(R ∣ S) ps x = R ps x ⊎ S ps x

-- a sentence, or nothing and this value
abbrev pub Maybe : {A : Type 0} → Language A → A → Language A
Maybe R value = R ∣ Yields value

-- x*: sentences one after another
abbrev pub Many : {A : Type 0} → Language A → Language (List A)
Many R ps [] = ps ≡ []
Many R ps (x ∷ xs) = (front : List Piece) × (back : List Piece) × R front x × Many R back xs × (ps ≡ front ++ back)

-- x+
abbrev pub Several : {A : Type 0} → Language A → Language (List A)
Several R = do
  first ← R
  others ← Many R
  Yields (first ∷ others)

-- a keyword
abbrev pub word_says : List ℕ → Piece → Option (Unit {0})
word_says sought (word w) = cond (bytes_eq w sought) (Some tt) None
word_says sought _ = None

abbrev pub Keyword : String → Language (Unit {0})
Keyword w = One (word_says (codes w))

-- a symbol
abbrev pub symbol_says : ℕ → Piece → Option (Unit {0})
symbol_says sought (symbol c) = cond (nat_eq c sought) (Some tt) None
symbol_says sought _ = None

abbrev pub Sign : String → Language (Unit {0})
Sign c = One (symbol_says (byte c))

-- a number
abbrev pub number_says : Piece → Option ℤ
number_says (number ds) = Some (pos (number_of ds))
number_says _ = None

abbrev pub Number : Language ℤ
Number = One number_says

-- R behind a keyword
abbrev pub After : {A : Type 0} → String → Language A → Language A
After w R = Keyword w >>= (λ _. R)

-- R behind a symbol
abbrev pub Behind : {A : Type 0} → String → Language A → Language A
Behind c R = Sign c >>= (λ _. R)

-- x ( c x )*
abbrev pub Apart : {A : Type 0} → String → Language A → Language (List A)
Apart c R = do
  first ← R
  others ← Many (Behind c R)
  Yields (first ∷ others)

-- the pieces begin a sentence
pub record BeginsSentence {A : Type 0} (R : Language A) (ps : List Piece) : Type 0 where
  pub more : List Piece
  pub value : A
  pub sentence : R (ps ++ more) value

-- no sentence has the piece of that number behind those before it, which are none themselves; or the pieces end too early
pub record IsExpected {A : Type 0} (R : Language A) (ps : List Piece) (n : ℕ) : Type 0 where
  pub within : n ≤ length ps
  pub before : BeginsSentence R (take n ps)
  pub after : n < length ps → BeginsSentence R (take (n + 1) ps) → ⊥
  pub none : (x : A) → R (take n ps) x → ⊥

-- the piece of that number stands behind a whole sentence
pub record IsTrailing {A : Type 0} (R : Language A) (ps : List Piece) (n : ℕ) : Type 0 where
  pub within : n < length ps
  pub value : A
  pub sentence : R (take n ps) value

-- the place of the piece that is `Expected`, in a text that ends at place `end`
pub record IsExpectedAt {A : Type 0} (R : Language A) (end : ℕ) (ps : List Placed) (at : ℕ) : Type 0 where
  pub index : ℕ
  pub expected : IsExpected R (pieces_of ps) index
  pub place : at ≡ place_in end ps index

-- the place of the piece that is `Trailing`
pub record IsTrailingAt {A : Type 0} (R : Language A) (end : ℕ) (ps : List Placed) (at : ℕ) : Type 0 where
  pub index : ℕ
  pub trailing : IsTrailing R (pieces_of ps) index
  pub place : at ≡ place_in end ps index
