-- Which pieces of a text, from number i on, are a sentence, and why others are refused.
use Rattle.std.specs.Prelude.{◌≡◌, ℕ, List, ◌∷◌, length, drop}
use Rattle.hs_texts.specs.Types.{Refusal, Expected, Trailing, Unknown}
use Rattle.hs_texts.specs.Pieces.{Placed, IsTextOf, pieces_of, place_in}
use Rattle.hs_texts.specs.Languages.{Language}
use Rattle.hs_texts.specs.Kept.{Kept, kept, IsRefused, IsBehind}

-- they are a sentence that says the value
pub record IsKeptText {A : Type 0} (R : Language (Kept A)) (bytes : List ℕ) (i : ℕ) (value : A) : Type 0 where
  pub pieces : List Placed
  pub is_text : IsTextOf bytes pieces
  pub sentence : R (pieces_of (drop i pieces)) (kept value)

-- no sentence goes on with the piece at that place, or it is the first of pieces that may not stand there
pub record IsRefusedIn {A : Type 0} (R : Language (Kept A)) (bytes : List ℕ) (i at : ℕ) : Type 0 where
  pub pieces : List Placed
  pub is_text : IsTextOf bytes pieces
  pub index : ℕ
  pub refused : IsRefused R (pieces_of (drop i pieces)) index
  pub place : at ≡ place_in (length bytes) (drop i pieces) index

-- the piece at that place stands behind a whole sentence
pub record IsBehindIn {A : Type 0} (R : Language (Kept A)) (bytes : List ℕ) (i at : ℕ) : Type 0 where
  pub pieces : List Placed
  pub is_text : IsTextOf bytes pieces
  pub index : ℕ
  pub behind : IsBehind R (pieces_of (drop i pieces)) index
  pub place : at ≡ place_in (length bytes) (drop i pieces) index

-- why they are no sentence
abbrev pub IsKeptRefusal : {A : Type 0} → Language (Kept A) → List ℕ → ℕ → Refusal → Type 0
IsKeptRefusal R bytes i (Expected at) = IsRefusedIn R bytes i at
IsKeptRefusal R bytes i (Trailing at) = IsBehindIn R bytes i at
IsKeptRefusal R bytes i _ = ⊥

-- the refusal names the first of these names
abbrev pub IsFirstUnknown : List (List ℕ) → Refusal → Type 0
IsFirstUnknown names (Unknown name) = (others : List (List ℕ)) × (names ≡ name ∷ others)
IsFirstUnknown names _ = ⊥

-- they are a sentence, and this is the first of its unknown names
pub record IsUnknownIn {A : Type 0} (R : Language (Kept A)) (unknown : A → List (List ℕ)) (bytes : List ℕ) (i : ℕ) (name : List ℕ) : Type 0 where
  pub written : A
  pub is_text : IsKeptText R bytes i written
  pub first : IsFirstUnknown (unknown written) (Unknown name)

-- why they are no sentence of known names
abbrev pub IsNamedRefusal : {A : Type 0} → Language (Kept A) → (A → List (List ℕ)) → List ℕ → ℕ → Refusal → Type 0
IsNamedRefusal R unknown bytes i (Unknown name) = IsUnknownIn R unknown bytes i name
IsNamedRefusal R unknown bytes i r = IsKeptRefusal R bytes i r
