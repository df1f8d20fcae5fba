-- When bytes write a sentence: wherever they stand, they are cut into its pieces.
use Rattle.std.specs.Prelude.{◌≡◌, ℕ, ◌≤◌, Bool, true, false, List, [], ◌++◌, length, ⊤}
use Rattle.std.specs.List.{list_any}
use Rattle.std.specs.Str.{IsAscii}
use Rattle.hs_texts.specs.Pieces.{Piece, Placed, Cuts, after_gap, begins, is_word_byte, is_large, pieces_of}
use Rattle.hs_texts.specs.Languages.{Language}

-- the bytes, which end at that place, are cut into these pieces and no others; none is too large, and all bytes are ASCII
pub record IsCutInto (end : ℕ) (bytes : List ℕ) (ps : List Piece) : Type 0 where
  pub placed : List Placed
  pub rest : List ℕ
  pub cuts : Cuts end bytes placed rest
  pub ends : after_gap false rest ≡ []
  pub these : pieces_of placed ≡ ps
  pub small : list_any (λ p. is_large p.piece) placed ≡ false
  pub ascii : IsAscii bytes

-- what may stand behind bytes: anything where they are closed, as by a symbol or a space, and else no further byte of a word
abbrev pub MayFollow : Bool → List ℕ → Type 0
MayFollow true behind = ⊤
MayFollow false behind = begins is_word_byte behind ≡ false

-- the bytes are a sentence of R that says x: their pieces stand before those of what stands behind
pub record Writes {A : Type 0} (R : Language A) (closed : Bool) (bytes : List ℕ) (x : A) : Type 0 where
  pub pieces : List Piece
  pub sentence : R pieces x
  pub cut : (end : ℕ) (behind : List ℕ) (qs : List Piece) → MayFollow closed behind → length (bytes ++ behind) ≤ end → IsCutInto end behind qs → IsCutInto end (bytes ++ behind) (pieces ++ qs)
