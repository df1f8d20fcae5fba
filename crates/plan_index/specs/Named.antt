-- Points by name, and the tables of their numbers.
use Rattle.std.specs.Prelude.{◌≡◌, ℕ, ◌+◌, Bool, false, nat_eq, List, slice_get, get_or, Some}
use Rattle.std.specs.List.{list_any}
use Rattle.hs_base.specs.declared.ids.PointId.{PointId}
use Rattle.hs_base.specs.declared.plan.Time.{Time}
use Rattle.hs_base.specs.Points.{Point, origin, horizon, ending}
use Rattle.plan_index.specs.declared.point_name.PointName.{PointName}
use Rattle.plan_index.specs.declared.point_name.PointName.TheVariants.{Origin, Horizon, End}

-- the point of a name
abbrev pub named : PointName → Point
named Origin = origin
named (Horizon k) = horizon k
named (End t) = ending t.sv.0 t.place

-- whether one of the times is of the point
abbrev pub has_time : List Time → ℕ → Bool
has_time fixed x = list_any (λ (t : Time). nat_eq t.point.0 x) fixed

-- the numbers are those of the horizon points
abbrev pub AreMarks : List Point → List PointId → Type 0
AreMarks points horizons = (k : ℕ) (x : PointId) → slice_get horizons k ≡ Some x → slice_get points x.0 ≡ Some (horizon (k + 1))

-- the flags are set at the points that have a time
abbrev pub AreFlags : List Time → List Bool → Type 0
AreFlags fixed flags = (x : ℕ) → get_or flags x false ≡ has_time fixed x
