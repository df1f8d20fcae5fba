-- Plans of a mission that their texts spell, and what these texts write.
use Rattle.std.specs.Prelude.{ℕ, ◌<◌, pos, ◌≤ℤ◌, ◌<ℤ◌, List, [], ◌∷◌, ◌++◌, length, map, slice_get, Some, None}
use Rattle.std.specs.List.{AllByRecursion}
use Rattle.hs_base.specs.declared.limits.TheConstants.{LAST}
use Rattle.hs_base.specs.declared.mission.Kind.{Kind}
use Rattle.hs_base.specs.declared.mission.Mission.{Mission}
use Rattle.hs_base.specs.declared.plan.TokenRef.{TokenRef}
use Rattle.hs_base.specs.declared.plan.Support.{Support}
use Rattle.hs_base.specs.declared.plan.Time.{Time}
use Rattle.hs_base.specs.declared.plan.Extension.{Extension}
use Rattle.hs_base.specs.Missions.{IsKindOf, IsMission}
use Rattle.hs_base.specs.Ranges.{whole, InRange}
use Rattle.hs_base.specs.Walks.{EachAfter}
use Rattle.hs_base.specs.Points.{Point, origin, horizon, ending, count, points_of}
use Rattle.hs_texts.specs.Written.{variable_name, value_name}
use Rattle.hs_texts.specs.declared.written.WrittenPoint.{WrittenPoint}
use Rattle.hs_texts.specs.declared.written.WrittenPoint.TheVariants.{Origin, Horizon, End}
use Rattle.hs_texts.specs.declared.written.WrittenToken.{WrittenToken}
use Rattle.hs_texts.specs.declared.written.WrittenTime.{WrittenTime}
use Rattle.hs_texts.specs.declared.written.WrittenKind.{WrittenKind}
use Rattle.hs_texts.specs.declared.written.WrittenSupport.{WrittenSupport}
use Rattle.hs_texts.specs.declared.written.WrittenBody.{WrittenBody}
use Rattle.hs_texts.specs.declared.written.WrittenExtension.{WrittenExtension}

-- a token of a variable of the mission
pub record IsWritableToken (m : Mission) (t : TokenRef) : Type 0 where
  pub known : t.sv.0 < length m.vars
  pub place : pos t.place ≤ℤ LAST

pub record IsWritableSupport (m : Mission) (s : Support) : Type 0 where
  pub token : IsWritableToken m s.token
  pub need : pos s.need ≤ℤ LAST
  pub by : IsWritableToken m s.by

-- a point of the extensions before, at some time
pub record IsWritableFix (before : List Extension) (t : Time) : Type 0 where
  pub not_origin : 0 < t.point.0
  pub below : t.point.0 < count before
  pub at : InRange whole t.at

-- an extension of the plan `before`
pub record IsWritableExtension (m : Mission) (before : List Extension) (e : Extension) : Type 0 where
  pub base : pos e.base <ℤ LAST
  pub since : InRange whole e.since
  pub fixed : AllByRecursion (IsWritableFix before) e.fixed
  pub tokens : AllByRecursion (IsKindOf m.vars) e.tokens
  pub supports : AllByRecursion (IsWritableSupport m) e.supports
  pub goals : AllByRecursion (IsWritableToken m) e.goals

pub record IsWritablePlan (m : Mission) (es : List Extension) : Type 0 where
  pub mission : IsMission m
  pub each : EachAfter (IsWritableExtension m) [] es

-- The plan with names in place of numbers.

abbrev pub written_token : Mission → TokenRef → WrittenToken
written_token m t = record { sv = variable_name m t.sv.0; place = t.place }

abbrev pub written_point : Mission → Point → WrittenPoint
written_point m origin = Origin
written_point m (horizon k) = Horizon k
written_point m (ending v i) = End (record { sv = variable_name m v; place = i })

-- a point by its number
abbrev pub written_at : Mission → List Point → ℕ → WrittenPoint
written_at m ps p = elim (slice_get ps p) [ Some name ↦ written_point m name | None ↦ Origin ]

abbrev pub written_time : Mission → List Point → Time → WrittenTime
written_time m ps t = record { point = written_at m ps t.point.0; at = t.at }

abbrev pub written_kind : Mission → Kind → WrittenKind
written_kind m k = record { sv = variable_name m k.sv.0; value = value_name m k }

abbrev pub written_support : Mission → Support → WrittenSupport
written_support m s = record { token = written_token m s.token; need = s.need; by = written_token m s.by }

abbrev pub written_body : Mission → List Extension → Extension → WrittenBody
written_body m before e = record {
  since = e.since;
  fixed = map (written_time m (points_of before)) e.fixed;
  tokens = map (written_kind m) e.tokens;
  supports = map (written_support m) e.supports;
  goals = map (written_token m) e.goals;
}

abbrev pub written_extension : Mission → List Extension → Extension → WrittenExtension
written_extension m before e = record { base = e.base; body = written_body m before e }

-- extensions behind those before them
abbrev pub written_extensions : Mission → List Extension → List Extension → List WrittenExtension
written_extensions m before [] = []
written_extensions m before (e ∷ es) = written_extension m before e ∷ written_extensions m (before ++ e ∷ []) es

-- the plan
abbrev pub written_plan : Mission → List Extension → List WrittenExtension
written_plan m es = written_extensions m [] es
