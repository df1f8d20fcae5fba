-- Texts that break off where a rule is broken.
use Rattle.std.specs.Prelude.{◌≡◌, ◌⊎◌, ℕ, ◌+◌, ◌<◌, ◌≤◌, List, [], ◌∷◌, ◌++◌, length, take, fold}
use Rattle.hs_texts.specs.Pieces.{Piece}
use Rattle.hs_texts.specs.Languages.{Language, Yields, IsExpected}

-- a value, or the end of the text behind so many pieces that may not stand there
pub data Kept (A : Type 0) : Type 0 where
  kept : A → Kept A
  broken : ℕ → Kept A

-- goes on behind a value; where the text breaks off, nothing follows
abbrev pub onward : {A B : Type 0} → (A → Language (Kept B)) → Kept A → Language (Kept B)
onward S (kept x) = S x
onward S (broken n) = Yields (broken n)

-- items one after another, each in the language that what was reached asks for
abbrev pub Items : {A S : Type 0} → (S → Language (Kept A)) → (S → A → S) → S → Language (List A)
Items R step s ps [] = ps ≡ []
Items R step s ps (x ∷ xs) = (front : List Piece) × (back : List Piece) × R s front (kept x) × Items R step (step s x) back xs × (ps ≡ front ++ back)

-- such items, up to one at which the text breaks off
abbrev pub Series : {A S : Type 0} → (S → Language (Kept A)) → (S → A → S) → S → Language (Kept (List A))
Series R step s ps (kept xs) = Items R step s ps xs
Series {A} R step s ps (broken n) = (front : List Piece) × (back : List Piece) × (xs : List A) × Items R step s front xs × R (fold step s xs) back (broken n) × (ps ≡ front ++ back)

-- some pieces may not stand there, of which the piece n is the first: the text breaks off behind them
pub record IsBroken {A : Type 0} (R : Language (Kept A)) (ps : List Piece) (n : ℕ) : Type 0 where
  pub size : ℕ
  pub within : n + size ≤ length ps
  pub sentence : R (take (n + size) ps) (broken size)

-- no text goes on with piece n, or it is the first of pieces that may not stand there
abbrev pub IsRefused : {A : Type 0} → Language (Kept A) → List Piece → ℕ → Type 0
IsRefused R ps n = IsExpected R ps n ⊎ IsBroken R ps n

-- the piece of that number stands behind a whole sentence
pub record IsBehind {A : Type 0} (R : Language (Kept A)) (ps : List Piece) (n : ℕ) : Type 0 where
  pub within : n < length ps
  pub value : A
  pub sentence : R (take n ps) (kept value)
