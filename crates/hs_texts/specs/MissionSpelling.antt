-- Which bytes spell which mission, and why others are refused.
use Rattle.std.specs.Prelude.{◌≡◌, ◌⊎◌, ℕ, ◌≤◌, List, ◌∷◌, length, take}
use Rattle.hs_texts.specs.Types.{Ast, Refusal, Expected, Trailing}
use Rattle.hs_texts.specs.Pieces.{Placed, IsTextOf, IsCutRefusal, pieces_of}
use Rattle.hs_texts.specs.Languages.{IsExpectedAt, IsTrailingAt}
use Rattle.hs_texts.specs.MissionText.{MissionText}
use Rattle.hs_texts.specs.MissionRefusals.{refusals}

-- the bytes spell a
pub record Spells (bytes : List ℕ) (a : Ast) : Type 0 where
  pub pieces : List Placed
  pub text : IsTextOf bytes pieces
  pub sentence : MissionText (pieces_of pieces) a

-- the first pieces of the bytes, as many as n, spell a
pub record SpellsFront (bytes : List ℕ) (a : Ast) (n : ℕ) : Type 0 where
  pub pieces : List Placed
  pub text : IsTextOf bytes pieces
  pub within : n ≤ length pieces
  pub sentence : MissionText (take n (pieces_of pieces)) a

-- the piece at that place is the first that no mission goes on with
pub record IsExpectedIn (bytes : List ℕ) (at : ℕ) : Type 0 where
  pub pieces : List Placed
  pub text : IsTextOf bytes pieces
  pub expected : IsExpectedAt MissionText (length bytes) pieces at

-- the piece at that place stands behind a whole mission
pub record IsTrailingIn (bytes : List ℕ) (at : ℕ) : Type 0 where
  pub pieces : List Placed
  pub text : IsTextOf bytes pieces
  pub trailing : IsTrailingAt MissionText (length bytes) pieces at

-- why no mission stands at the front of the bytes
abbrev pub IsFrontRefusal : List ℕ → Refusal → Type 0
IsFrontRefusal bytes (Expected at) = IsExpectedIn bytes at
IsFrontRefusal bytes refusal = IsCutRefusal bytes refusal

-- why the bytes spell no mission
abbrev pub IsReadRefusal : List ℕ → Refusal → Type 0
IsReadRefusal bytes (Trailing at) = IsTrailingIn bytes at
IsReadRefusal bytes refusal = IsFrontRefusal bytes refusal

-- r is the first rule that a breaks
abbrev pub IsMissionRefusal : Ast → Refusal → Type 0
IsMissionRefusal a r = (others : List Refusal) × (refusals a ≡ r ∷ others)

-- why the bytes are no accepted mission
abbrev pub IsRefusalOf : List ℕ → Refusal → Type 0
IsRefusalOf bytes r = IsReadRefusal bytes r ⊎ ((a : Ast) × Spells bytes a × IsMissionRefusal a r)
