-- The line in which a log stops.
use Rattle.std.specs.Prelude.{◌≡◌, ℕ, ◌-◌, ℤ, pos, List, [], ◌∷◌, drop, length, slice_get, Some, codes}
use Rattle.hs_texts.specs.Pieces.{Piece, word, number, number_of}
use Rattle.log_laws.specs.LogText.{phase_text}
use Rattle.journal_read.specs.declared.stop.Stop.{Stop}

-- the piece of that number is this word
abbrev pub IsWordAt : List Piece → ℕ → List ℕ → Type 0
IsWordAt ps i w = slice_get ps i ≡ Some (word w)

-- the last four pieces are `stop PHASE at NUMBER`, with that phase and that number
pub record EndsWithStop (ps : List Piece) (s : Stop) : Type 0 where
  pub digits : List ℕ
  pub line : drop (length ps - 4) ps ≡ word (codes "stop") ∷ word (phase_text s.phase) ∷ word (codes "at") ∷ number digits ∷ []
  pub at : s.at ≡ pos (number_of digits)

-- the piece of that number is a number, and this one
pub record IsNumberAt (ps : List Piece) (i : ℕ) (n : ℤ) : Type 0 where
  pub digits : List ℕ
  pub piece : slice_get ps i ≡ Some (number digits)
  pub is : n ≡ pos (number_of digits)
