-- What holds of each partial plan that parts make.
use Rattle.std.specs.List.{AllByRecursion}
use Rattle.std.specs.Prelude.{List, None, Option, Some, [], length, slice_get, suc, true, ℕ, ⊤, ◌*◌, ◌+◌, ◌<◌, ◌∷◌, ◌≡◌, ◌≤◌}
use Rattle.hs_base.specs.Bounds.{bounds_of}
use Rattle.hs_base.specs.Points.{count, timeline_of, tokens_of}
use Rattle.hs_base.specs.Schedule.{IsBelow}
use Rattle.hs_base.specs.declared.mission.Mission.{Mission}
use Rattle.hs_base.specs.declared.plan.Time.{Time}
use Rattle.search_tree.specs.Begun.{Begun}
use Rattle.search_tree.specs.Partial.{Partial, Row, cells, held_from}
use Rattle.search_tree.specs.Resolvers.{new_tokens}
use Rattle.search_tree.specs.declared.held.Cell.{Cell}
use Rattle.search_tree.specs.declared.held.Held.{Held}

-- a row of variable v: the tokens of the plan that is extended, then tokens of the variable; the first starts at Z
pub record IsRow (b : Begun) (v : ℕ) (r : Row) : Type 0 where
  pub given : r.given ≡ held_from b v 0 (timeline_of (tokens_of b.base) v)
  pub variable : AllByRecursion (λ (c : Cell). c.held.kind.sv.0 ≡ v) r.added
  pub some : 0 < length (cells r)
  pub first : (c : Cell) → slice_get (cells r) 0 ≡ Some c → (c.joined ≡ true) × (c.held.start ≡ 0)

abbrev pub AreRows : Begun → ℕ → List Row → Type 0
AreRows b v [] = ⊤
AreRows b v (r ∷ rs) = IsRow b v r × AreRows b (suc v) rs

-- x is a token of row v
pub record IsAt (p : Partial) (v : ℕ) (x : Held) : Type 0 where
  pub row : Row
  pub is_row : slice_get p.rows v ≡ Some row
  pub place : ℕ
  pub cell : Cell
  pub here : slice_get (cells row) place ≡ Some cell
  pub held : cell.held ≡ x

-- x is a token of its variable's row
abbrev pub IsIn : Partial → Held → Type 0
IsIn p x = IsAt p x.kind.sv.0 x

abbrev pub IsGoalIn : Partial → Option Held → Type 0
IsGoalIn p None = ⊤
IsGoalIn p (Some x) = IsIn p x

-- a row for each variable, tokens with ends of their own, and supports and goals of tokens that are there
pub record IsSound (m : Mission) (b : Begun) (p : Partial) : Type 0 where
  pub one_each : length p.rows ≡ length m.vars
  pub rows : AreRows b 0 p.rows
  pub below : AllByRecursion (IsBelow (suc (count b.base))) (bounds_of m b.base)
  pub fixed : AllByRecursion (λ (f : Time). f.point.0 < count b.base) b.fixed
  pub distinct : (v w : ℕ) (x y : Held) → IsAt p v x → IsAt p w y → x.stop ≡ y.stop → x ≡ y
  pub fresh : (v : ℕ) (x : Held) → IsAt p v x → (x.start < p.points) × (x.stop < p.points)
  pub above : suc (count b.base) ≤ p.points
  pub backed : AllByRecursion (λ s. IsIn p s.token × IsIn p s.by) p.supports
  pub goals : AllByRecursion (IsGoalIn p) p.goals

-- a new token brings no more than two points
pub record IsSmall (b : Begun) (p : Partial) : Type 0 where
  pub points : p.points ≤ suc (count b.base) + 2 * new_tokens p
