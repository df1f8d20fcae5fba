-- The timelines of a plan as rows of tokens.
use Rattle.std.specs.Prelude.{◌≡◌, ℕ, ◌+◌, ◌≤◌, List, [], map, slice_get, Some, None, vec_len, vec_capacity}
use Rattle.hs_base.specs.declared.mission.Kind.{Kind}
use Rattle.hs_base.specs.Points.{Point, ending, timeline_of}
use Rattle.plan_index.specs.declared.placed.PlacedToken.{PlacedToken}
use Rattle.plan_index.specs.declared.placed.Timeline.{Timeline}

-- the tokens of a variable, none past the last row
abbrev pub row_of : List Timeline → ℕ → List PlacedToken
row_of lines v = elim (slice_get lines v) [ None ↦ [] | Some line ↦ line.tokens.items ]

-- the timeline of a variable is there, and has room for so many more tokens
pub record HasRoom (lines : List Timeline) (v n : ℕ) : Type 0 where
  pub line : Timeline
  pub there : slice_get lines v ≡ Some line
  pub room : vec_len line.tokens + n ≤ vec_capacity line.tokens

-- the kind of a token of a variable
abbrev pub kind_in : ℕ → PlacedToken → Kind
kind_in v p = record { sv = record { 0 = v }; value = p.value }

-- the rows have these tokens, each with the point that ends it
pub record AreLines (tokens : List Kind) (points : List Point) (row : ℕ → List PlacedToken) : Type 0 where
  pub kinds : (v : ℕ) → map (kind_in v) (row v) ≡ timeline_of tokens v
  pub ends : (v i : ℕ) (p : PlacedToken) → slice_get (row v) i ≡ Some p → slice_get points p.end.0 ≡ Some (ending v i)
