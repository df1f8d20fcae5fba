-- The timelines of a plan's tokens, as the code asks for them.
use Rattle.std.specs.Prelude.{◌≡◌, ℕ, ◌<◌, List, [], ◌∷◌, length, Option, Some, None}
use Rattle.hs_base.specs.declared.ids.ValId.{ValId}
use Rattle.hs_base.specs.declared.mission.Kind.{Kind}
use Rattle.hs_base.specs.Points.{timeline_of}

-- the value of the last token of a timeline
abbrev pub last_value : List Kind → Option ValId
last_value [] = None
last_value (k ∷ []) = Some k.value
last_value (k ∷ l ∷ ks) = last_value (l ∷ ks)

-- how many tokens of a variable there are
abbrev pub size_of : List Kind → ℕ → ℕ
size_of tokens v = length (timeline_of tokens v)

-- the first of so many variables without tokens, or each has one
abbrev pub IsFirstEmpty : List Kind → ℕ → Option ℕ → Type 0
IsFirstEmpty tokens vars None = (v : ℕ) → v < vars → 0 < size_of tokens v
IsFirstEmpty tokens vars (Some v) = (v < vars) × (timeline_of tokens v ≡ []) × ((w : ℕ) → w < v → 0 < size_of tokens w)
