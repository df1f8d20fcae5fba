-- Which parts may be done to a partial plan.
use Rattle.std.specs.Prelude.{Contains, None, Some, false, length, slice_get, suc, true, ℕ, ⊤, ◌≡◌, ◌≤◌}
use Rattle.hs_base.specs.Bounds.{goals_of}
use Rattle.hs_base.specs.Needs.{choice_by, is_deferrable, needs_of}
use Rattle.hs_base.specs.Points.{value_of}
use Rattle.hs_base.specs.declared.ids.SvId.{SvId}
use Rattle.hs_base.specs.declared.ids.ValId.{ValId}
use Rattle.hs_base.specs.declared.mission.Choice.{Choice}
use Rattle.hs_base.specs.declared.mission.Goal.{Goal}
use Rattle.hs_base.specs.declared.mission.Mission.{Mission}
use Rattle.hs_base.specs.declared.mission.Need.{Need}
use Rattle.hs_base.specs.declared.mission.Value.{Value}
use Rattle.hs_base.specs.declared.plan.TokenRef.{TokenRef}
use Rattle.search_tree.specs.Begun.{Begun, number}
use Rattle.search_tree.specs.Flaws.{is_served}
use Rattle.search_tree.specs.Partial.{Partial, Row, cells, held_at, held_by, kind_of}
use Rattle.search_tree.specs.Resolvers.{has_room, next_of}
use Rattle.search_tree.specs.declared.held.Cell.{Cell}
use Rattle.search_tree.specs.declared.part.Part.{Part}
use Rattle.search_tree.specs.declared.part.Part.TheVariants.{Deferred, Finished, Followed, Inserted, Joined, MetGoal, Supported}

-- behind place i of the row there is a gap or the open end, and no token of the plan that is extended
pub record IsSlot (i : ℕ) (r : Row) : Type 0 where
  pub after : length r.given ≤ suc i
  pub place : suc i ≤ length (cells r)
  pub gap : (d : Cell) → slice_get (cells r) (suc i) ≡ Some d → d.joined ≡ false
  pub yet : suc i ≡ length (cells r) → r.finished ≡ false

-- the token is there
pub record IsThere (p : Partial) (t : TokenRef) : Type 0 where
  pub row : Row
  pub is_row : slice_get p.rows t.sv.0 ≡ Some row
  pub cell : Cell
  pub here : slice_get (cells row) t.place ≡ Some cell

-- a token of that value may be inserted behind place i
pub record MayInsert (m : Mission) (p : Partial) (v : SvId) (i : ℕ) (value : ValId) : Type 0 where
  pub row : Row
  pub is_row : slice_get p.rows v.0 ≡ Some row
  pub slot : IsSlot i row
  pub known : Value
  pub is_known : value_of m (kind_of v.0 value.0) ≡ Some known

-- a token of that value may follow the one at place i
pub record MayFollowOn (m : Mission) (p : Partial) (v : SvId) (i : ℕ) (value : ValId) : Type 0 where
  pub insert : MayInsert m p v i value
  pub next : Contains (next_of m (held_at p v.0 i).kind) value

-- the gap behind place i may be closed
pub record MayJoin (m : Mission) (p : Partial) (v : SvId) (i : ℕ) : Type 0 where
  pub row : Row
  pub is_row : slice_get p.rows v.0 ≡ Some row
  pub after : length row.given ≤ suc i
  pub cell : Cell
  pub here : slice_get (cells row) (suc i) ≡ Some cell
  pub gap : cell.joined ≡ false
  pub next : Contains (next_of m (held_at p v.0 i).kind) cell.held.kind.value

-- the timeline's end is open
pub record MayFinish (p : Partial) (v : SvId) : Type 0 where
  pub row : Row
  pub is_row : slice_get p.rows v.0 ≡ Some row
  pub yet : row.finished ≡ false

-- the need is open, and the other token serves it
pub record MaySupport (m : Mission) (b : Begun) (p : Partial) (t : TokenRef) (i : ℕ) (by : TokenRef) : Type 0 where
  pub token : IsThere p t
  pub need : Need
  pub is_need : slice_get (needs_of m (held_by p t).kind) i ≡ Some need
  pub yet : is_served b p (held_by p t) i ≡ false
  pub server : IsThere p by
  pub choice : Choice
  pub serves : choice_by need (held_by p by).kind ≡ Some choice

-- the goal has no token, and the token is of its kind
pub record MayMeet (m : Mission) (b : Begun) (p : Partial) (g : ℕ) (by : TokenRef) : Type 0 where
  pub goal : Goal
  pub is_goal : slice_get (goals_of m (number b)) g ≡ Some goal
  pub yet : slice_get p.goals g ≡ Some None
  pub server : IsThere p by
  pub kind : (held_by p by).kind ≡ goal.kind

-- the need is open and may wait, and its token is the last of a finished timeline
pub record MayDefer (m : Mission) (b : Begun) (p : Partial) (t : TokenRef) (i : ℕ) : Type 0 where
  pub token : IsThere p t
  pub last : suc t.place ≡ length (cells token.row)
  pub done : token.row.finished ≡ true
  pub need : Need
  pub is_need : slice_get (needs_of m (held_by p t).kind) i ≡ Some need
  pub yet : is_served b p (held_by p t) i ≡ false
  pub may_wait : is_deferrable need ≡ true

abbrev pub MayDo : Mission → Begun → Partial → Part → Type 0
MayDo m b p (Inserted v i value) = MayInsert m p v i value
MayDo m b p (Followed v i value) = MayFollowOn m p v i value
MayDo m b p (Joined v i) = MayJoin m p v i
MayDo m b p (Finished v) = MayFinish p v
MayDo m b p (Supported t i by) = MaySupport m b p t i by
MayDo m b p (MetGoal g by) = MayMeet m b p g by
MayDo m b p (Deferred t i) = MayDefer m b p t i

-- where the part brings a token, the limits leave room for one
abbrev pub HasRoom : Begun → Partial → Part → Type 0
HasRoom b p (Inserted v i value) = has_room b p ≡ true
HasRoom b p (Followed v i value) = has_room b p ≡ true
HasRoom b p _ = ⊤
