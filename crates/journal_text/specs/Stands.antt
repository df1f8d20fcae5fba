-- What the log of a history keeps of the entries so far.
use Rattle.std.specs.Prelude.{◌≡◌, ℕ, Bool, false, nat_eq, List, [], ◌∷◌, length, Option, Some, None}
use Rattle.hs_base.specs.declared.ids.PointId.{PointId}
use Rattle.hs_base.specs.declared.plan.Extension.{Extension}
use Rattle.hs_machine.specs.declared.history.Entry.{Entry}
use Rattle.hs_machine.specs.declared.history.Deed.{Deed}
use Rattle.hs_base.specs.Points.{hor}
use Rattle.hs_machine.specs.State.{now_of, plan_of, executes}
use Rattle.plan_index.specs.Contents.{Contents, contents_of}

-- the horizon point of the newest plan, if there is one
abbrev pub newest_horizon : List Extension → Option PointId
newest_horizon [] = None
newest_horizon (e ∷ es) = Some (record { 0 = hor (e ∷ es) (length (e ∷ es)) })

-- the time and what is to know of the newest plan after these entries
pub record StandsAt (tick : ℕ) (index : Contents) (h : List Entry) : Type 0 where
  pub tick_is : tick ≡ now_of h
  pub index_is : index ≡ contents_of (plan_of h)

-- whether the point is the one that is executed, if there is one
abbrev pub is_point : ℕ → Option PointId → Bool
is_point p None = false
is_point p (Some x) = nat_eq x.0 p

-- whether a deed executes the point
abbrev pub executes_point : ℕ → Deed → Bool
executes_point p d = is_point p (executes d)
