-- A checked plan meets what its distances ask for.
use Rattle.std.proofs.Common.{◌≡◌, zero, suc, ◌+◌, ◌<◌, ◌≤◌, pos, List, [], ◌∷◌, ◌++◌, length, get_or, All, sym, subst, arith}
use Rattle.std.proofs.lemmas.Int.{ints}
use Rattle.std.specs.List.{AllByRecursion}
use Rattle.hs_base.specs.declared.mission.Mission.{Mission}
use Rattle.hs_base.specs.declared.plan.Time.{Time}
use Rattle.hs_base.specs.declared.plan.Extension.{Extension}
use Rattle.hs_base.specs.Ranges.{range}
use Rattle.hs_base.specs.Schedule.{Schedule, Meets, Holds}
use Rattle.hs_base.specs.Points.{count}
use Rattle.hs_base.specs.Bounds.{fixed_bounds, new_bounds, bounds_of}
use Rattle.hs_base.specs.Checked.{fixed_of, KeepsRules, Checked}
use Rattle.hs_base.proofs.RuleLemmas.{limits_kept}
use Rattle.base_laws.proofs.ListLemmas.{snoc_induction, each_both}
use Rattle.base_laws.proofs.PointLemmas.{count_is}
use Rattle.plan_laws.specs.Fit.{IsFit}
use Rattle.plan_laws.proofs.ScheduleLemmas.{left, right}
use Rattle.plan_laws.proofs.LengthLemmas.{in_range, each_extension}
use Rattle.plan_laws.proofs.FitLemmas.{bounds_fit, after_origin, before_last}
use Rattle.stn_distance.specs.Ranges.{IsInRange, StaysInTime, IsFixed}
use Rattle.plan_check.proofs.WithinLemmas.{fixed-push, all_points}

-- what holds of each holds at each place
all_of : {X : Type 0} (P : X → Type 0) (xs : List X) → AllByRecursion P xs → All P xs
all_of P [] h i d below = absurd (omega (arith, below))
all_of P (x ∷ xs) h zero d below = h.0
all_of P (x ∷ xs) h (suc i) d below = all_of P xs h.1 i d (omega (arith, below))

each_change : {X : Type 0} (P Q : X → Type 0) → ((x : X) → P x → Q x) → (xs : List X) → AllByRecursion P xs → AllByRecursion Q xs
each_change P Q f [] h = tt
each_change P Q f (x ∷ xs) h = (f x h.0, each_change P Q f xs h.1)

pub bounds_range : (m : Mission) (es : List Extension) → Checked m es → All (IsInRange (count es)) (bounds_of m es)
bounds_range m es k = all_of (IsInRange (count es)) (bounds_of m es) (each_change (IsFit (count es)) (IsInRange (count es)) (λ b f. record { from_below = f.from; to_below = f.to; low = f.least; high = f.most }) (bounds_of m es) (bounds_fit m es k.mission k.rules))

pub bounds_stay : (m : Mission) (es : List Extension) → StaysInTime (count es) (bounds_of m es)
bounds_stay m es = record { after_origin = after_origin m es; before_last = before_last m es }

-- each schedule has the fixed points at their times
abbrev at_time : Schedule → Time → Type 0
at_time s t = s t.point.0 ≡ t.at

fixed_here : (s : Schedule) (ts : List Time) → s 0 ≡ pos 0 → AllByRecursion (Holds s) (fixed_bounds ts) → AllByRecursion (at_time s) ts
fixed_here s [] origin h = tt
fixed_here s (t ∷ ts) origin h =
    let r = in_range s t.point.0 0 (range t.at t.at) (h.0, (h.1.0, tt)) in
    (omega (arith, ints, r.0, r.1, origin), fixed_here s ts origin h.1.1)

fixed_part : (m : Mission) (s : Schedule) (before : List Extension) (e : Extension) → Meets (new_bounds m before e) s → Meets (fixed_bounds e.fixed) s
fixed_part m s before e h = right _ _ (left _ _ h)

fixed_times : (m : Mission) (s : Schedule) (es : List Extension) → Meets (bounds_of m es) s → AllByRecursion (at_time s) (fixed_of es)
fixed_times m s es meets = snoc_induction (λ es. AllByRecursion (at_time s) (fixed_of es)) (λ b e. Meets (new_bounds m b e) s) step [] es tt (each_extension m s [] es meets)
  where
    step : (before : List Extension) (e : Extension) → Meets (new_bounds m before e) s → AllByRecursion (at_time s) (fixed_of before) → AllByRecursion (at_time s) (fixed_of (before ++ e ∷ []))
    step before e h old =
        let part = fixed_part m s before e h in
        subst (AllByRecursion (at_time s)) (sym (fixed-push before e)) (each_both (at_time s) (fixed_of before) e.fixed old (fixed_here s e.fixed part.origin part.each))

pub all_fixed : (m : Mission) (es : List Extension) → Checked m es → All (IsFixed (count es) (bounds_of m es)) (fixed_of es)
all_fixed m es k = λ i d below.
    let there : (s : Schedule) → Meets (bounds_of m es) s → s (get_or (fixed_of es) i d).point.0 ≡ (get_or (fixed_of es) i d).at = λ s meets. all_of (at_time s) (fixed_of es) (fixed_times m s es meets) i d below in
    record {
      below = all_of (λ (t : Time). t.point.0 < count es) (fixed_of es) (all_points m k.mission es k.rules) i d below;
      not_before = record { holds = λ s meets. omega (arith, ints, there s meets, meets.origin) };
      not_after = record { holds = λ s meets. omega (arith, ints, there s meets, meets.origin) };
    }

-- a checked plan has few points that are not fixed
pub few_rows : (m : Mission) (es : List Extension) → Checked m es → count es ≤ length (fixed_of es) + 2048
few_rows m es k = snoc_induction (λ es. count es ≤ length (fixed_of es) + 2048) (KeepsRules m) step [] es (omega arith) k.rules
  where
    step : (before : List Extension) (e : Extension) → KeepsRules m before e → count before ≤ length (fixed_of before) + 2048 → count (before ++ e ∷ []) ≤ length (fixed_of (before ++ e ∷ [])) + 2048
    step before e r old = omega (arith, (limits_kept r).points, count_is (before ++ e ∷ []))
