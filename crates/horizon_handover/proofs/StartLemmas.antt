-- A checked plan at time 0, where nothing but Z is executed.
use Rattle.std.proofs.Common.{◌≡◌, ℕ, zero, suc, ◌<◌, ◌≤◌, Bool, false, List, [], length, get_or, Some, None, refl, sym, ap, ◌∙◌, subst, arith, pos, inl, inr, map}
use Rattle.std.proofs.lemmas.Int.{ints}
use Rattle.std.proofs.Math.Path.{fun_ext}
use Rattle.std.proofs.lemmas.Option.{slice_get_past}
use Rattle.std.proofs.lemmas.Bool.{cases_lt}
use Rattle.std.proofs.lemmas.List.{get_or_past}
use Rattle.std.proofs.lemmas.List.FromFn.{length-map-range_with_len, get_or-map-range_with_len}
use Rattle.std.specs.Prelude.{ℤ}
use Rattle.hs_base.specs.declared.net.Net.{Net}
use Rattle.hs_base.specs.declared.plan.Extension.{Extension}
use Rattle.hs_base.specs.declared.mission.Mission.{Mission}
use Rattle.hs_base.specs.Schedule.{numbers_from}
use Rattle.hs_base.specs.Points.{count, points_of, device_ends, is_observed}
use Rattle.hs_base.specs.Bounds.{bounds_of}
use Rattle.hs_base.specs.Network.{spread}
use Rattle.hs_base.specs.Reduced.{IsReducedOf}
use Rattle.hs_base.specs.Fits.{Fits, time_at}
use Rattle.hs_base.specs.Dispatch.{IsReached}
use Rattle.hs_base.specs.Checked.{Checked}
use Rattle.hs_machine.specs.State.{times_of, executed}
use Rattle.plan_laws.proofs.FitLemmas.{after_origin}
use Rattle.net_laws.proofs.ExactLemmas.{reduced_again}
use Rattle.net_laws.proofs.AnswerLemmas.{fits_both}
use Rattle.exec_laws.proofs.RunningLemmas.{first_none}
use Rattle.dispatcher.specs.State.{begun}
use Rattle.dispatcher.proofs.TimesLemmas.{times_are}
use Rattle.plan_check.specs.Planned.{Planned}
use Rattle.stn_distance.specs.Distances.{Distances}
use Rattle.edge_filter.specs.Reform.{Reform, IsReformed}
use Rattle.exec_laws.specs.Follows.{Follows}
use Rattle.horizon_handover.specs.Offers.{beginning}

-- only Z is executed at first
first_only : (x : ℕ) (t : ℤ) → executed [] x ≡ Some t → (x ≡ 0) × (t ≡ pos 0)
first_only zero t is = (refl, (let e : Some (pos 0) ≡ Some t = is in let v : pos 0 ≡ t = cc in sym v))
first_only (suc x) t is = absurd (let e : None ≡ Some t = sym (first_none x) ∙ is in cc)

-- a number past the points is observed by no device
observed_past : (m : Mission) (es : List Extension) (x : ℕ) → count es ≤ x → is_observed m es x ≡ false
observed_past m es x past = ap (device_ends m es) (slice_get_past (points_of es) x past)

-- the flags of the points are those of all numbers
pub flags_of : (m : Mission) (es : List Extension) (x : ℕ) → get_or (map (λ y. is_observed m es y) (numbers_from 0 (count es))) x false ≡ is_observed m es x
flags_of m es x = elim (cases_lt x (count es)) [
  | inl below ↦ get_or-map-range_with_len (λ y. is_observed m es y) 0 (count es) x x false below (omega arith)
  | inr past ↦ get_or_past (map (λ y. is_observed m es y) (numbers_from 0 (count es))) x false (omega (arith, length-map-range_with_len (λ y. is_observed m es y) 0 (count es), past)) ∙ sym (observed_past m es x (omega (arith, past)))
]

-- the parts of a reformulated plan
pub parts_of : (r : Reform) (plan : Planned) (dist : Distances) (net : Net) → plan ≡ r.plan → dist ≡ r.dist → net ≡ r.net → IsReformed r → IsReformed (record { plan = plan; dist = dist; net = net })
parts_of r plan dist net p d n k =
    subst (λ (x : Planned). IsReformed (record { plan = x; dist = dist; net = net })) (sym p)
    (subst (λ (x : Distances). IsReformed (record { plan = r.plan; dist = x; net = net })) (sym d) (subst (λ (x : Net). IsReformed (record { plan = r.plan; dist = r.dist; net = x })) (sym n) k))

module _ (p : Planned) (k : Checked p.mission p.plan.extensions) where
  abbrev es : List Extension
  es = p.plan.extensions

  some_points : 0 < count es
  some_points = omega arith

  pub start_fits : Fits (count es) (bounds_of p.mission es) (executed []) (pos 0) k.schedule
  start_fits = record {
    meets = k.meets;
    past = λ x t is. let r = first_only x t is in ap k.schedule r.0 ∙ k.meets.origin ∙ sym r.1;
    future = λ x below free. omega (arith, ints, (after_origin p.mission es x below).holds k.schedule k.meets, k.meets.origin);
  }

  module _ (net : Net) (is : IsReducedOf (count es) (bounds_of p.mission es) net) where
    pub start_reached : IsReached (count es) net (executed []) (pos 0)
    start_reached = record {
      origin = refl;
      within = λ x t at. omega (arith, (first_only x t at).0, some_points);
      late = λ x t at. omega (arith, ints, (first_only x t at).1);
      some = k.schedule;
      fits = (fits_both (count es) (bounds_of p.mission es) net is (executed []) (pos 0) k.schedule).0 start_fits;
    }

    pub again : IsReducedOf (count es) (spread net) net
    again = reduced_again (count es) (bounds_of p.mission es) net is

    abbrev flags : List Bool
    flags = map (λ y. is_observed p.mission es y) (numbers_from 0 (count es))

    pub flags_size : length flags ≡ count es
    flags_size = length-map-range_with_len (λ y. is_observed p.mission es y) 0 (count es)

    pub start_dispatch : Follows (beginning p) (begun net flags (times_of []) (pos 0))
    start_dispatch = record {
      reduced = is;
      points = length-map-range_with_len (time_at (times_of [])) 0 (length flags) ∙ flags_size;
      times = times_are (times_of []) (length flags) (λ y t at. omega (arith, (first_only y t at).0, some_points, flags_size));
      observed = fun_ext (flags_of p.mission es);
      tick = refl;
    }
