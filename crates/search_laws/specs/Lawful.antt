-- The rules of plans, so far as a partial plan keeps them already.
use Rattle.std.specs.List.{AllByRecursion}
use Rattle.std.specs.Prelude.{List, Some, [], length, slice_get, suc, true, ℕ, ⊤, ◌∷◌, ◌≡◌, ◌≤◌}
use Rattle.hs_base.specs.Bounds.{goals_of}
use Rattle.hs_base.specs.Checked.{supports_of}
use Rattle.hs_base.specs.Needs.{choice_by, is_deferrable, needs_of}
use Rattle.hs_base.specs.Points.{stop}
use Rattle.hs_base.specs.Timelines.{MayFollow}
use Rattle.hs_base.specs.Walks.{IsInOrder}
use Rattle.hs_base.specs.declared.limits.TheConstants.{FREE_POINTS}
use Rattle.hs_base.specs.declared.mission.Choice.{Choice}
use Rattle.hs_base.specs.declared.mission.Goal.{Goal}
use Rattle.hs_base.specs.declared.mission.Mission.{Mission}
use Rattle.hs_base.specs.declared.mission.Need.{Need}
use Rattle.hs_base.specs.declared.mission.Var.{Var}
use Rattle.hs_base.specs.declared.plan.Support.{Support}
use Rattle.search_tree.specs.Begun.{Begun, number}
use Rattle.search_tree.specs.Partial.{Partial, Row, cells}
use Rattle.search_tree.specs.Resolvers.{free_with}
use Rattle.search_tree.specs.declared.backing.Backing.{Backing}
use Rattle.search_tree.specs.declared.backing.Deferral.{Deferral}
use Rattle.search_tree.specs.declared.held.Cell.{Cell}
use Rattle.search_tree.specs.declared.held.Held.{Held}

-- each token that is joined to the one before it may follow it, where `before` is the value before the first
abbrev pub Continue : Var → ℕ → List Cell → Type 0
Continue var before [] = ⊤
Continue var before (c ∷ cs) = (c.joined ≡ true → MayFollow var before c.held.kind.value.0) × Continue var c.held.kind.value.0 cs

-- the first token has the begin value, and the others continue it
abbrev pub AreLinked : Var → List Cell → Type 0
AreLinked var [] = ⊤
AreLinked var (c ∷ cs) = (c.held.kind.value.0 ≡ var.begin.0) × Continue var c.held.kind.value.0 cs

-- the support is for a need of its token, and by a token of one of that need's choices
pub record IsBacking (m : Mission) (s : Backing) : Type 0 where
  pub need : Need
  pub is_need : slice_get (needs_of m s.token.kind) s.need ≡ Some need
  pub choice : Choice
  pub serves : choice_by need s.by.kind ≡ Some choice

-- the supports are not for one need
abbrev pub AreForOthers : Backing → Backing → Type 0
AreForOthers s r = s.token.stop ≡ r.token.stop → s.need ≡ r.need → ⊥

-- the plan that is extended doesn't serve the need
abbrev pub IsForNew : Begun → Backing → Type 0
IsForNew b s = AllByRecursion (λ (o : Support). stop b.base o.token ≡ s.token.stop → o.need ≡ s.need → ⊥) (supports_of b.base)

-- x is the last token of the row, which is finished
pub record IsEnd (r : Row) (x : Held) : Type 0 where
  pub done : r.finished ≡ true
  pub place : ℕ
  pub last : suc place ≡ length (cells r)
  pub cell : Cell
  pub here : slice_get (cells r) place ≡ Some cell
  pub held : cell.held ≡ x

-- a need that was left to a later plan may wait, and its token is the last of a finished timeline
pub record IsLeft (m : Mission) (p : Partial) (d : Deferral) : Type 0 where
  pub token : Held
  pub variable : ℕ
  pub row : Row
  pub is_row : slice_get p.rows variable ≡ Some row
  pub ends : IsEnd row token
  pub is : token.stop ≡ d.stop
  pub need : Need
  pub is_need : slice_get (needs_of m token.kind) d.need ≡ Some need
  pub may_wait : is_deferrable need ≡ true

-- the plan has no more free points than it may have
abbrev pub IsWithin : Begun → Partial → Type 0
IsWithin b p = free_with b p 0 ≤ FREE_POINTS

pub record IsLawful (m : Mission) (b : Begun) (p : Partial) : Type 0 where
  pub linked : (v : ℕ) (r : Row) (var : Var) → slice_get p.rows v ≡ Some r → slice_get m.vars v ≡ Some var → AreLinked var (cells r)
  pub backed : AllByRecursion (IsBacking m) p.supports
  pub apart : IsInOrder AreForOthers p.supports
  pub new : AllByRecursion (IsForNew b) p.supports
  pub one_each : length p.goals ≡ length (goals_of m (number b))
  pub goals : (i : ℕ) (g : Goal) (x : Held) → slice_get (goals_of m (number b)) i ≡ Some g → slice_get p.goals i ≡ Some (Some x) → x.kind ≡ g.kind
  pub left : AllByRecursion (IsLeft m p) p.deferred
