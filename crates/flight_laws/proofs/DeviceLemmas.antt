-- Where no value is ended by a device, no point is observed.
use Rattle.std.proofs.Common.{◌≡◌, ℕ, false, List, Option, Some, None, refl}
use Rattle.std.specs.Prelude.{slice_get}
use Rattle.std.specs.List.{AllByRecursion}
use Rattle.hs_base.specs.declared.mission.Kind.{Kind}
use Rattle.hs_base.specs.declared.mission.Value.{Value}
use Rattle.hs_base.specs.declared.mission.Var.{Var}
use Rattle.hs_base.specs.declared.mission.Mission.{Mission}
use Rattle.hs_base.specs.declared.plan.Extension.{Extension}
use Rattle.hs_base.specs.Points.{Point, origin, horizon, ending, points_of, tokens_of, timeline_of, value_of, is_by_device, device_ends, is_observed}
use Rattle.base_laws.proofs.ListLemmas.{each_at}
use Rattle.flight_laws.specs.Flights.{HasNoDevices}

module _ (m : Mission) (none : HasNoDevices m) where
  value_free : (o : Option Value) → ((v : Value) → o ≡ Some v → v.by_device ≡ false) → is_by_device o ≡ false
  value_free None free = refl
  value_free (Some v) free = free v refl

  kind_free : (k : Kind) → is_by_device (value_of m k) ≡ false
  kind_free k = by_var (slice_get m.vars k.sv.0) (λ var is. each_at (λ (x : Var). AllByRecursion (λ (w : Value). w.by_device ≡ false) x.values) m.vars k.sv.0 var none is)
    where
      by_var : (o : Option Var) → ((var : Var) → o ≡ Some var → AllByRecursion (λ (w : Value). w.by_device ≡ false) var.values) → is_by_device (elim o [ None ↦ None | Some var ↦ slice_get var.values k.value.0 ]) ≡ false
      by_var None free = refl
      by_var (Some var) free = value_free (slice_get var.values k.value.0) (λ v at. each_at (λ (w : Value). w.by_device ≡ false) var.values k.value.0 v (free var refl) at)

  pub none_observed : (es : List Extension) (x : ℕ) → is_observed m es x ≡ false
  none_observed es x = by_point (slice_get (points_of es) x)
    where
      by_kind : (o : Option Kind) → elim o [ None ↦ false | Some k ↦ is_by_device (value_of m k) ] ≡ false
      by_kind None = refl
      by_kind (Some k) = kind_free k

      by_point : (o : Option Point) → device_ends m es o ≡ false
      by_point None = refl
      by_point (Some origin) = refl
      by_point (Some (horizon k)) = refl
      by_point (Some (ending v i)) = by_kind (slice_get (timeline_of (tokens_of es) v) i)
