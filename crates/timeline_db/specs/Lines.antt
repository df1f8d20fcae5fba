-- The rows of a partial plan, as the code keeps them.
use Rattle.std.specs.Prelude.{◌≡◌, ℕ, suc, ◌+◌, ◌-◌, ◌<◌, Bool, true, false, not, cond, nat_lt, List, [], ◌∷◌, ◌++◌, Option, None, Some, length, take, drop, map, set, get_or, slice_get, option_map, unwrap_or}
use Rattle.hs_base.specs.declared.mission.Kind.{Kind}
use Rattle.search_tree.specs.Partial.{Row, nobody}
use Rattle.search_tree.specs.declared.held.Cell.{Cell}
use Rattle.timeline_db.specs.declared.token.Token.{Token}

-- a row as its callers see it: its tokens, of which the first ones are of the plan that is extended
pub record Shown : Type 0 where
  pub tokens : List Token
  pub given : ℕ
  pub finished : Bool

abbrev pub cell_of : Token → Cell
cell_of t = record { held = t.held; joined = t.joined }

-- the row of the partial plan
abbrev pub row_of : Shown → Row
row_of s = record { given = map (λ (t : Token). t.held) (take s.given s.tokens); added = map cell_of (drop s.given s.tokens); finished = s.finished }

abbrev pub nothing_held : Token
nothing_held = record { held = nobody; joined = true; needs = 0; unmet = 0 }

-- the token stands behind a gap
abbrev pub is_gap : Token → Bool
is_gap t = not t.joined

-- the token has an open need
abbrev pub is_waiting : Token → Bool
is_waiting t = nat_lt t.unmet t.needs

-- for how many tokens the test is true
abbrev pub how_many : (Token → Bool) → List Token → ℕ
how_many test [] = 0
how_many test (t ∷ ts) = cond (test t) 1 0 + how_many test ts

-- with the token of that place joined, or behind a gap
abbrev pub with_joined : ℕ → Bool → Shown → Shown
with_joined i joined s = record s { tokens = set s.tokens i (record (get_or s.tokens i nothing_held) { joined = joined }) }

-- with another first open need of the token of that place
abbrev pub with_unmet : ℕ → ℕ → Shown → Shown
with_unmet i n s = record s { tokens = set s.tokens i (record (get_or s.tokens i nothing_held) { unmet = n }) }

-- with another number of needs of the token of that place
abbrev pub with_needs : ℕ → ℕ → Shown → Shown
with_needs i n s = record s { tokens = set s.tokens i (record (get_or s.tokens i nothing_held) { needs = n }) }

-- the first place of a token for which the test is true, or there is none
abbrev pub IsFirstOf : (Token → Bool) → List Token → Option ℕ → Type 0
IsFirstOf test ts None = (i : ℕ) (t : Token) → slice_get ts i ≡ Some t → test t ≡ false
IsFirstOf test ts (Some k) = ((t : Token) × (slice_get ts k ≡ Some t) × (test t ≡ true)) × ((i : ℕ) (t : Token) → i < k → slice_get ts i ≡ Some t → test t ≡ false)

-- the end of the last token, or Z
abbrev pub end_of : List Token → ℕ
end_of ts = unwrap_or (option_map (λ (t : Token). t.held.stop) (slice_get ts (length ts - 1))) 0

-- a token of the plan that is extended comes behind the others
pub record PushesGiven (kind : Kind) (stop : ℕ) (old new : Shown) : Type 0 where
  pub tokens : new.tokens ≡ old.tokens ++ record { held = record { kind = kind; start = end_of old.tokens; stop = stop }; joined = true; needs = 0; unmet = 0 } ∷ []
  pub given : new.given ≡ suc old.given
  pub finished : new.finished ≡ old.finished
