-- Which supports are right, by the tokens.
use Rattle.std.specs.Prelude.{◌≡◌, ℕ, zero, suc, List, slice_get, Some, ⊤}
use Rattle.hs_base.specs.declared.mission.Kind.{Kind}
use Rattle.hs_base.specs.declared.mission.Need.{Need}
use Rattle.hs_base.specs.declared.mission.Choice.{Choice}
use Rattle.hs_base.specs.declared.mission.Mission.{Mission}
use Rattle.hs_base.specs.declared.plan.Support.{Support}
use Rattle.hs_base.specs.Points.{timeline_of}
use Rattle.hs_base.specs.Needs.{need_of, choice_by}
use Rattle.hs_base.specs.Checked.{IsNeedBefore}

-- the support names a token, a need of it, and a token of one of that need's choices
pub record IsServingIn (m : Mission) (tokens : List Kind) (s : Support) : Type 0 where
  pub need : Need
  pub has_need : need_of m (slice_get (timeline_of tokens s.token.sv.0) s.token.place) s.need ≡ Some need
  pub kind : Kind
  pub has_token : slice_get (timeline_of tokens s.by.sv.0) s.by.place ≡ Some kind
  pub choice : Choice
  pub serves : choice_by need kind ≡ Some choice

-- what support i is for comes behind what the one before it is for
abbrev pub IsBehindLast : List Support → ℕ → Type 0
IsBehindLast supports zero = ⊤
IsBehindLast supports (suc i) = (r : Support) × (s : Support) × (slice_get supports i ≡ Some r) × (slice_get supports (suc i) ≡ Some s) × IsNeedBefore r.token r.need s.token s.need
