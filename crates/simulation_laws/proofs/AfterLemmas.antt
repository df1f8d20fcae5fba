-- A handover in a running state makes no point fit to be fired that wasn't before.
use Rattle.simulation_laws.proofs.ObservedLemmas.{old_place, observed_kept}
use Rattle.std.proofs.Common.{map, nat_eq, suc, ◌≡◌, ◌≢◌, ℕ, ◌+◌, ◌-◌, ◌<◌, ◌≤◌, Bool, true, false, nat_le, List, [], ◌∷◌, ◌++◌, length, get_or, Some, None, refl, sym, ap, ◌∙◌, subst, arith, inl, inr, pos, length-append, add-zero}
use Rattle.std.proofs.lemmas.Int.{ints}
use Rattle.std.proofs.lemmas.Bool.{cases_lt, cases_eq}
use Rattle.std.proofs.lemmas.Bool.Decides.{nat_tests}
use Rattle.std.proofs.lemmas.Option.{slice_get-get_or}
use Rattle.std.specs.Prelude.{ℤ, ◌<ℤ◌, slice_get}
use Rattle.hs_base.specs.declared.mission.Horizon.{Horizon}
use Rattle.hs_base.specs.declared.mission.Mission.{Mission}
use Rattle.hs_base.specs.declared.plan.Extension.{Extension}
use Rattle.hs_base.specs.declared.plan.TokenRef.{TokenRef}
use Rattle.hs_base.specs.declared.net.Net.{Net}
use Rattle.hs_machine.specs.declared.history.Entry.{Entry}
use Rattle.hs_machine.specs.declared.history.Deed.TheVariants.{Handover}
use Rattle.hs_machine.specs.declared.history.Phase.TheVariants.{Running}
use Rattle.hs_base.specs.Schedule.{Schedule}
use Rattle.hs_base.specs.Points.{Point, origin, horizon, ending, place_of, new_points, refs_after, count, hor, points_of, timeline_of, tokens_of, is_observed}
use Rattle.hs_base.specs.Bounds.{bounds_of, IsScheduleOf}
use Rattle.hs_base.specs.Fits.{Times, MayBeNow, IsTiedTo, time_at}
use Rattle.hs_base.specs.Checked.{Checked, KeepsRules}
use Rattle.hs_machine.specs.State.{now_of, plan_of, count_at, bounds_at, executed, tick_at, watched, moment_of, phase_of, has_ended}
use Rattle.hs_base.specs.Moments.{Moment, IsUntied, MayFire}
use Rattle.hs_machine.specs.Machine.{fire, done, observed, no_point, RefusedIf, PointReply, OwnReply, Replies}
use Rattle.base_laws.proofs.ListLemmas.{front_induction, EachAfter-push, in_order}
use Rattle.base_laws.proofs.PointLemmas.{named, points-push, place_after, ending_kept, horizon_kept, count-push}
use Rattle.plan_laws.proofs.PlanLemmas.{restricts}
use Rattle.run_laws.proofs.StateLemmas.{plan_handed, times_kept, now_of-push}
use Rattle.run_laws.proofs.RunLemmas.{otherwise, event_reply, point_rest, fired}
use Rattle.exec_laws.proofs.HorizonLemmas.{horizon_at, mark_below, none_of}
use Rattle.exec_laws.proofs.EndingLemmas.{last_horizon}
use Rattle.simulation_laws.proofs.RisingLemmas.{new_end_late}

-- what a fire that is Done tells of the state
pub record MayBeFired (m : Mission) (h : List Entry) (x : ℕ) : Type 0 where
  pub below : x < count_at h
  pub none : executed h x ≡ None
  pub own : watched m h x ≡ false
  pub untied : IsUntied (moment_of m h) x
  pub may : MayFire (moment_of m h) x

point_below : (w : Moment) (x : ℕ) (P : Type 0) → PointReply w x done P → x < w.points
point_below w x P r = by_case (nat_le w.points x) refl _ r
  where
    by_case : (b : Bool) → nat_le w.points x ≡ b → (Q : Type 0) → RefusedIf b no_point done Q → x < w.points
    by_case true is Q r = absurd (let e : done ≡ no_point = r in cc)
    by_case false is Q r = grind (arith, nat_tests)

pub fired_so : (m : Mission) (h : List Entry) (x : ℕ) → Replies m h (fire x) done → MayBeFired m h x
fired_so m h x lawful =
    let reply = event_reply m h (fire x) lawful in
    let rest = point_rest (moment_of m h) x _ reply in
    let r : OwnReply (moment_of m h) x done = otherwise _ _ _ rest (λ (e : done ≡ observed). cc) in
    record {
      below = point_below (moment_of m h) x _ reply;
      none = (fired m h x lawful).0;
      own = unwatched (watched m h x) _ rest;
      untied = r.0;
      may = r.1;
    }
  where
    unwatched : (b : Bool) (P : Type 0) → RefusedIf b observed done P → b ≡ false
    unwatched true P r = absurd (let e : done ≡ observed = r in cc)
    unwatched false P r = refl

pub fires_so : (m : Mission) (h : List Entry) (x : ℕ) → phase_of h ≡ Running → MayBeFired m h x → Replies m h (fire x) done
fires_so m h x is f =
    let there : nat_le (count_at h) x ≡ false = let b = f.below in grind (arith, nat_tests) in
    rw is (rw (there, f.none, f.own) (f.untied, f.may))

-- no point is the horizon of number 0
no_ends : (ts : List TokenRef) → place_of (horizon 0) (map (λ t. ending t.sv.0 t.place) ts) ≡ length (map (λ (t : TokenRef). ending t.sv.0 t.place) ts)
no_ends [] = refl
no_ends (t ∷ ts) = ap suc (no_ends ts)

pub no_zero : (es : List Extension) → place_of (horizon 0) (points_of es) ≡ count es
no_zero = front_induction (λ es. place_of (horizon 0) (points_of es) ≡ count es) refl step
  where
    step : (before : List Extension) (e : Extension) → place_of (horizon 0) (points_of before) ≡ count before → place_of (horizon 0) (points_of (before ++ e ∷ [])) ≡ count (before ++ e ∷ [])
    step before e old =
        let other : nat_eq 0 (length before + 1) ≡ false = grind (arith, nat_tests) in
        let new : place_of (horizon 0) (new_points before e) ≡ length (new_points before e) = rw other (ap suc (no_ends (refs_after (tokens_of before) e.tokens))) in
        let parts = points-push before e in
        ap (place_of (horizon 0)) parts ∙ place_after (horizon 0) (points_of before) (new_points before e) old ∙ ap (λ n. count before + n) new ∙ sym (ap length parts ∙ length-append (points_of before) (new_points before e))

-- the number of a new point names the new horizon, or a new token
record IsNewEnd (es : List Extension) (e : Extension) (v i : ℕ) : Type 0 where
  new : length (timeline_of (tokens_of es) v) ≤ i
  there : i < length (timeline_of (tokens_of (es ++ e ∷ [])) v)

new_end : (es : List Extension) (e : Extension) (x v i : ℕ) → count es ≤ x → x < count (es ++ e ∷ []) → slice_get (points_of (es ++ e ∷ [])) x ≡ Some (ending v i) → IsNewEnd es e v i
new_end es e x v i old below at = record {
  new = elim (cases_lt i (length (timeline_of (tokens_of es) v))) [
    | inl inside ↦ absurd (omega (arith, old, (named (es ++ e ∷ [])).once x (ending v i) at, ending_kept es e v i inside, (named es).ends_there v i inside))
    | inr past ↦ omega (arith, past)
  ];
  there = old_place (es ++ e ∷ []) x v i below at;
}

module _ (m : Mission) (before : List Extension) (e : Extension) (checked : Checked m (before ++ e ∷ [])) (some : before ≢ []) (t : Schedule) (meets : IsScheduleOf m (before ++ e ∷ []) t) (g : Horizon) (is : slice_get m.horizons (length before - 1) ≡ Some g) where
  abbrev es : List Extension
  es = before ++ e ∷ []

  -- every new point stands behind the horizon before
  pub new_point_late : (x : ℕ) → count before ≤ x → x < count es → g.tick <ℤ t x
  new_point_late x old below = by_name (get_or (points_of es) x origin) (slice_get-get_or (points_of es) x origin below)
    where
      by_name : (p : Point) → slice_get (points_of es) x ≡ Some p → g.tick <ℤ t x
      by_name origin at =
          let z : 0 ≡ x = (named es).once x origin at in
          absurd (omega (arith, old, z))
      by_name (ending v i) at =
          let new = new_end before e x v i old below at in
          let late = new_end_late m checked.mission before e checked.rules some t meets g is v i new.new new.there in
          omega (arith, ints, late, ap t ((named es).once x (ending v i) at))
      by_name (horizon j) at =
          let place : hor es j ≡ x = (named es).once x (horizon j) at in
          let size : length es ≡ length before + 1 = length-append before (e ∷ []) in
          let more : 0 < length before = some_length before some in
          let last = last_horizon m es checked (λ (n : es ≡ []). omega (arith, ap length n, size)) in
          let here : slice_get m.horizons (length before) ≡ Some last.0 = ap (λ (n : ℕ). slice_get m.horizons n) (omega (arith, size)) ∙ last.1 in
          let rises : g.tick <ℤ last.0.tick = in_order (λ (a b : Horizon). a.tick <ℤ b.tick) m.horizons (length before - 1) (length before) g last.0 checked.mission.rising is here (omega (arith, more)) in
          let stands = horizon_at m es t last.0 (λ (n : es ≡ []). omega (arith, ap length n, size)) meets last.1 in
          -- a number below belongs to an old horizon, one above to none
          elim (cases_lt j (length before + 1)) [
            | inl earlier ↦ elim (cases_eq j 0) [
              | inl none ↦ absurd (omega (arith, below, place, ap (hor es) none, no_zero es))
              | inr any ↦ absurd (omega (arith, old, place, horizon_kept before e j (omega (arith, any)) (omega (arith, earlier)), (named before).marks_there j (omega (arith, any)) (omega (arith, earlier))))
            ]
            | inr later ↦ elim (cases_eq j (length before + 1)) [
              | inl same ↦ omega (arith, ints, rises, stands, ap t (ap (hor es) (size ∙ sym same) ∙ place))
              | inr beyond ↦ absurd (omega (arith, below, place, (named es).marks_new j (omega (arith, size, later, beyond))))
            ]
          ]
        where
          some_length : (l : List Extension) → l ≢ [] → 0 < length l
          some_length [] n = absurd (n refl)
          some_length (x ∷ l) n = omega arith

-- a state in which the newest horizon's point is open
module _ (m : Mission) (h : List Entry) (e : Extension) (checked : Checked m (plan_of h ++ e ∷ [])) (some : plan_of h ≢ []) (open_ : has_ended h ≡ false) where
  abbrev more : List Extension
  more = plan_of h ++ e ∷ []

  front : Checked m (plan_of h)
  front = record { mission = checked.mission; schedule = checked.schedule; meets = restricts m (plan_of h) e checked.schedule checked.meets; rules = (EachAfter-push (KeepsRules m) [] (plan_of h) e checked.rules).0 }

  -- what may be fired with the plan and the extension could be fired before
  pub fired_before : (x : ℕ) → x < count more → executed h x ≡ None → is_observed m more x ≡ false → ((y : ℕ) → IsTiedTo (count more) (bounds_of m more) (executed h) (is_observed m more) x y → ⊥) → MayBeNow (count more) (bounds_of m more) (executed h) (tick_at h) x → MayBeFired m h x
  fired_before x below none own untied may = elim (cases_lt x (count_at h)) [
    | inl old ↦ record {
      below = old;
      none = none;
      own = sym (observed_kept m (plan_of h) e x old) ∙ own;
      untied = λ y t. untied y (record {
        below = omega (arith, t.below, count-push (plan_of h) e);
        watched = observed_kept m (plan_of h) e y t.below ∙ t.watched;
        waiting = t.waiting;
        other = t.other;
        together = record { each = λ s meets. t.together.each s (restricts m (plan_of h) e s meets) };
      });
      may = record {
        s = may.s;
        fits = record { meets = restricts m (plan_of h) e may.s may.fits.meets; past = may.fits.past; future = λ y yb free. may.fits.future y (omega (arith, yb, count-push (plan_of h) e)) free };
        here = may.here;
      };
    }
    | inr new ↦
        let g = last_horizon m (plan_of h) front some in
        let late = new_point_late m (plan_of h) e checked some may.s may.fits.meets g.0 g.1 x (omega (arith, new)) below in
        let mark = mark_below (plan_of h) some in
        let old_mark = restricts m (plan_of h) e may.s may.fits.meets in
        let at = horizon_at m (plan_of h) may.s g.0 some old_mark g.1 in
        let waits = may.fits.future (hor (plan_of h) (length (plan_of h))) (omega (arith, mark, count-push (plan_of h) e)) (none_of (executed h (hor (plan_of h) (length (plan_of h)))) open_) in
        absurd (omega (arith, ints, late, at, waits, may.here))
  ]

-- the law: h2 is h and a handover that was Done
pub no_fire_by_handover : (m : Mission) (h : List Entry) (e : Extension) (n : Net) (by : ℕ) (x : ℕ) → Checked m (plan_of h ++ e ∷ []) → plan_of h ≢ [] → has_ended h ≡ false → phase_of h ≡ Running → Replies m (h ++ record { by = by; deed = Handover e n } ∷ []) (fire x) done → Replies m h (fire x) done
no_fire_by_handover m h e n by x checked some open_ is lawful =
    let d : Entry = record { by = by; deed = Handover e n } in
    let f = fired_so m (h ++ d ∷ []) x lawful in
    let plan : plan_of (h ++ d ∷ []) ≡ plan_of h ++ e ∷ [] = plan_handed h d e refl in
    let times : executed (h ++ d ∷ []) ≡ executed h = ap time_at (times_kept h d refl) in
    let clock : tick_at (h ++ d ∷ []) ≡ tick_at h = ap pos (now_of-push h d ∙ add-zero (now_of h)) in
    fires_so m h x is (fired_before m h e checked some open_ x
    (subst (λ (l : List Extension). x < count l) plan f.below)
    (ap (λ (t : Times). t x) (sym times) ∙ f.none)
    (ap (λ (l : List Extension). is_observed m l x) (sym plan) ∙ f.own)
    (λ y t. f.untied y (subst (λ (l : List Extension). IsTiedTo (count l) (bounds_of m l) (executed (h ++ d ∷ [])) (is_observed m l) x y) (sym plan) (subst (λ (u : Times). IsTiedTo (count (plan_of h ++ e ∷ [])) (bounds_of m (plan_of h ++ e ∷ [])) u (is_observed m (plan_of h ++ e ∷ [])) x y) (sym times) t)))
    (subst (λ (l : List Extension). MayBeNow (count l) (bounds_of m l) (executed h) (tick_at h) x) plan (subst (λ (u : Times). MayBeNow (count_at (h ++ d ∷ [])) (bounds_at m (h ++ d ∷ [])) u (tick_at h) x) times (subst (λ (z : ℤ). MayBeNow (count_at (h ++ d ∷ [])) (bounds_at m (h ++ d ∷ [])) (executed (h ++ d ∷ [])) z x) clock f.may))))
