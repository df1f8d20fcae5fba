-- When a parser reads a language: one piece of look-ahead decides, and what is read is all that could be.
use Rattle.std.specs.Prelude.{◌≡◌, Bool, true, false, List, ◌∷◌, ◌++◌, Option, Some, None}
use Rattle.std.specs.List.{AllByRecursion}
use Rattle.hs_texts.specs.Pieces.{Piece}
use Rattle.hs_texts.specs.Languages.{Language, BeginsSentence}
use Rattle.text_laws.specs.Parsers.{Parser, done, stuck, next}

-- the piece that is next, if there is one, is none of these
abbrev pub Avoids : List Piece → Option Piece → Type 0
Avoids stops None = Unit {0}
Avoids stops (Some p) = AllByRecursion (λ s. s ≡ p → ⊥) stops

-- x was read from a sentence of R in front, and would be with anything behind it that begins as the rest does
pub record HasRead {A : Type 0} (R : Language A) (p : Parser A) (ps : List Piece) (x : A) (rest : List Piece) : Type 0 where
  pub front : List Piece
  pub sentence : R front x
  pub split : ps ≡ front ++ rest
  pub local : (other : List Piece) → next other ≡ next rest → p (front ++ other) ≡ done x other

-- what stands before the rest begins a sentence of R, and with the next piece it begins none
pub record IsStuck {A : Type 0} (R : Language A) (ps rest : List Piece) : Type 0 where
  pub front : List Piece
  pub split : ps ≡ front ++ rest
  pub begins : BeginsSentence R front
  pub none : (p : Piece) (others more : List Piece) (x : A) → rest ≡ p ∷ others → R (front ++ p ∷ more) x → ⊥

-- R has a sentence
pub record Lives {A : Type 0} (R : Language A) : Type 0 where
  pub pieces : List Piece
  pub value : A
  pub sentence : R pieces value

-- p reads R, where none of the stops stands behind it
pub record Reads {A : Type 0} (R : Language A) (p : Parser A) (stops : List Piece) : Type 0 where
  pub sound : (ps rest : List Piece) (x : A) → p ps ≡ done x rest → HasRead R p ps x rest
  pub complete : (u rest : List Piece) (x : A) → R u x → Avoids stops (next rest) → p (u ++ rest) ≡ done x rest
  pub halts : (ps rest : List Piece) → p ps ≡ stuck rest → IsStuck R ps rest
  pub lives : Lives R

-- sentences of S, and what stands behind them where none of `behind` does, begin with none of the stops
pub record Leads {A : Type 0} (S : Language A) (behind stops : List Piece) : Type 0 where
  pub avoids : (u rest : List Piece) (x : A) → S u x → Avoids behind (next rest) → Avoids stops (next (u ++ rest))

-- the test finds this piece alone
pub record Finds (test : Option Piece → Bool) (p : Piece) : Type 0 where
  pub none : test None ≡ false
  pub here : test (Some p) ≡ true
  pub only : (q : Piece) → test (Some q) ≡ true → p ≡ q

-- each sentence of R begins with this piece
pub record BeginsWith {A : Type 0} (R : Language A) (p : Piece) : Type 0 where
  pub begins : (u : List Piece) (x : A) → R u x → (v : List Piece) × (u ≡ p ∷ v)
