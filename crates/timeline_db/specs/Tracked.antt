-- What the code notes of the needs of tokens.
use Rattle.std.specs.List.{AllByRecursion, list_any}
use Rattle.std.specs.Prelude.{◌≡◌, ℕ, Bool, List, Some, ◌<◌, ◌≤◌, ◌&&◌, nat_eq, true, false, length, slice_get, take}
use Rattle.hs_base.specs.Checked.{supports_of}
use Rattle.hs_base.specs.Needs.{needs_of}
use Rattle.hs_base.specs.Points.{stop}
use Rattle.hs_base.specs.declared.mission.Mission.{Mission}
use Rattle.hs_base.specs.declared.plan.Support.{Support}
use Rattle.search_tree.specs.Begun.{Begun}
use Rattle.search_tree.specs.Flaws.{is_served}
use Rattle.search_tree.specs.Partial.{Partial}
use Rattle.search_tree.specs.declared.held.Held.{Held}
use Rattle.timeline_db.specs.Lines.{Shown}
use Rattle.timeline_db.specs.declared.token.Token.{Token}

-- the plan that is extended serves need j of the token
abbrev pub was_served : Begun → Held → ℕ → Bool
was_served b x j = list_any (λ (s : Support). nat_eq (stop b.base s.token) x.stop && nat_eq s.need j) (supports_of b.base)

-- the token's first open need is noted, or that it has none; where no need is counted, the plan that is extended
-- serves all
pub record IsTracked (m : Mission) (b : Begun) (p : Partial) (t : Token) : Type 0 where
  pub most : t.unmet ≤ t.needs
  pub needs : 0 < t.needs → t.needs ≡ length (needs_of m t.held.kind)
  pub served : (j : ℕ) → j < t.unmet → is_served b p t.held j ≡ true
  pub unserved : t.unmet < t.needs → is_served b p t.held t.unmet ≡ false
  pub all : t.needs ≡ 0 → (j : ℕ) → j < length (needs_of m t.held.kind) → was_served b t.held j ≡ true

-- the tokens of the plan that is extended stand in front, joined
pub record IsLine (s : Shown) : Type 0 where
  pub within : s.given ≤ length s.tokens
  pub joined : AllByRecursion (λ (t : Token). t.joined ≡ true) (take s.given s.tokens)

-- so it is of each token of the rows
pub record AreTracked (m : Mission) (b : Begun) (p : Partial) (lines : List Shown) : Type 0 where
  pub line : (v : ℕ) (s : Shown) → slice_get lines v ≡ Some s → IsLine s
  pub each : (v i : ℕ) (s : Shown) (t : Token) → slice_get lines v ≡ Some s → slice_get s.tokens i ≡ Some t → IsTracked m b p t
