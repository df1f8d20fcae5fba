-- The horizon's point of the newest plan, and the time before it is executed.
use Rattle.std.proofs.Common.{◌≡◌, ◌≢◌, ℕ, ◌+◌, ◌-◌, ◌<◌, ◌≤◌, false, List, [], ◌∷◌, ◌++◌, length, Option, Some, None, refl, sym, ap, ◌∙◌, subst, arith, length-append, is_some}
use Rattle.std.proofs.lemmas.Int.{ints}
use Rattle.std.specs.Prelude.{slice_get, ℤ, pos, ◌+ℤ◌, ◌≤ℤ◌}
use Rattle.std.specs.List.{AllByRecursion}
use Rattle.hs_base.specs.declared.mission.Horizon.{Horizon}
use Rattle.hs_base.specs.declared.mission.Mission.{Mission}
use Rattle.hs_base.specs.declared.plan.Extension.{Extension}
use Rattle.hs_machine.specs.declared.history.Entry.{Entry}
use Rattle.hs_base.specs.Ranges.{range}
use Rattle.hs_base.specs.Schedule.{Schedule, Meets, Holds}
use Rattle.hs_base.specs.Points.{count, hor}
use Rattle.hs_base.specs.Bounds.{new_bounds, exactly, on_some, IsScheduleOf}
use Rattle.hs_base.specs.Moments.{MayGoOn}
use Rattle.hs_machine.specs.State.{plan_of, executed, tick_at, moment_of, has_ended}
use Rattle.hs_machine.specs.Run.{Run}
use Rattle.base_laws.proofs.ListLemmas.{EachAfter-push}
use Rattle.base_laws.proofs.PointLemmas.{horizon_number, count-push}
use Rattle.plan_laws.proofs.LengthLemmas.{in_range, each_extension, horizon_part}
use Rattle.run_laws.proofs.RunLemmas.{run_fits}

-- a list that isn't empty ends with an element
pub record Ending {X : Type 0} (xs : List X) : Type 0 where
  pub front : List X
  pub last : X
  pub is : xs ≡ front ++ last ∷ []

pub ending_of : {X : Type 0} (xs : List X) → xs ≢ [] → Ending xs
ending_of [] some = absurd (some refl)
ending_of (x ∷ []) some = record { front = []; last = x; is = refl }
ending_of (x ∷ y ∷ xs) some =
    let r = ending_of (y ∷ xs) (λ (e : y ∷ xs ≡ []). cc) in
    record { front = x ∷ r.front; last = r.last; is = ap (λ l. x ∷ l) r.is }

-- the newest horizon's point is one of the plan
mark_below_of : (front : List Extension) (e : Extension) → hor (front ++ e ∷ []) (length (front ++ e ∷ [])) < count (front ++ e ∷ [])
mark_below_of front e =
    let size : length (front ++ e ∷ []) ≡ length front + 1 = length-append front (e ∷ []) in
    let number = ap (hor (front ++ e ∷ [])) size ∙ horizon_number front e in
    omega (arith, number, count-push front e)

pub mark_below : (es : List Extension) → es ≢ [] → hor es (length es) < count es
mark_below es some =
    let r = ending_of es some in
    subst (λ (l : List Extension). hor l (length l) < count l) (sym r.is) (mark_below_of r.front r.last)

-- every schedule has it at its tick
horizon_at_of : (m : Mission) (front : List Extension) (e : Extension) (s : Schedule) (g : Horizon) → IsScheduleOf m (front ++ e ∷ []) s → slice_get m.horizons (length (front ++ e ∷ []) - 1) ≡ Some g → s (hor (front ++ e ∷ []) (length (front ++ e ∷ []))) ≡ g.tick
horizon_at_of m front e s g meets is =
    let k = length front + 1 in
    let size : length (front ++ e ∷ []) ≡ k = length-append front (e ∷ []) in
    let found : slice_get m.horizons (k - 1) ≡ Some g = ap (λ (n : ℕ). slice_get m.horizons (n - 1)) (sym size) ∙ is in
    let h : Meets (new_bounds m front e) s = (EachAfter-push (λ b x. Meets (new_bounds m b x) s) [] front e (each_extension m s [] (front ++ e ∷ []) meets)).1 in
    let part = horizon_part m s front e h in
    let bounds : AllByRecursion (Holds s) (exactly (hor (front ++ e ∷ []) k) g.tick) = subst (λ (o : Option Horizon). AllByRecursion (Holds s) (on_some o (λ (x : Horizon). exactly (hor (front ++ e ∷ []) k) x.tick))) found part.each in
    let r = in_range s (hor (front ++ e ∷ []) k) 0 (range g.tick g.tick) bounds in
    let here : s (hor (front ++ e ∷ []) k) ≡ g.tick = omega (arith, ints, r.0, r.1, h.origin) in
    ap (λ (n : ℕ). s (hor (front ++ e ∷ []) n)) size ∙ here

pub horizon_at : (m : Mission) (es : List Extension) (s : Schedule) (g : Horizon) → es ≢ [] → IsScheduleOf m es s → slice_get m.horizons (length es - 1) ≡ Some g → s (hor es (length es)) ≡ g.tick
horizon_at m es s g some meets is =
    let r = ending_of es some in
    subst (λ (l : List Extension). IsScheduleOf m l s → slice_get m.horizons (length l - 1) ≡ Some g → s (hor l (length l)) ≡ g.tick) (sym r.is) (horizon_at_of m r.front r.last s g) meets is

pub none_of : (o : Option ℤ) → is_some o ≡ false → o ≡ None
none_of None is = refl
none_of (Some t) is = absurd (cc)

-- until it is executed, the time is at most that tick
pub before_horizon : (m : Mission) (h : List Entry) (g : Horizon) → Run m h → plan_of h ≢ [] → has_ended h ≡ false → slice_get m.horizons (length (plan_of h) - 1) ≡ Some g → tick_at h ≤ℤ g.tick
before_horizon m h g run some open_ is =
    let f = run_fits m h run some in
    let at = horizon_at m (plan_of h) f.s g some f.fits.meets is in
    let later = f.fits.future (hor (plan_of h) (length (plan_of h))) (mark_below (plan_of h) some) (none_of (executed h (hor (plan_of h) (length (plan_of h)))) open_) in
    omega (arith, ints, at, later)

-- where the time may go on, it is less
pub before_tick : (m : Mission) (h : List Entry) (g : Horizon) → MayGoOn (moment_of m h) → plan_of h ≢ [] → has_ended h ≡ false → slice_get m.horizons (length (plan_of h) - 1) ≡ Some g → (tick_at h +ℤ pos 1) ≤ℤ g.tick
before_tick m h g may some open_ is =
    let at = horizon_at m (plan_of h) may.s g some may.fits.meets is in
    let later = may.later (hor (plan_of h) (length (plan_of h))) (mark_below (plan_of h) some) (none_of (executed h (hor (plan_of h) (length (plan_of h)))) open_) in
    omega (arith, ints, at, later)
