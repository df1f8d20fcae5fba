-- Logs tell each run.
use Rattle.std.proofs.Common.{◌≡◌, ◌≢◌, ◌⊎◌, ℕ, ◌+◌, ◌*◌, ◌<◌, ◌≤◌, ℤ, pos, Bool, true, false, cond, nat_le, List, [], ◌∷◌, ◌++◌, length, map, Option, Some, None, refl, sym, ap, ◌∙◌, subst, arith, inl, inr}
use Rattle.std.proofs.lemmas.Bool.Decides.{nat_tests}
use Rattle.std.proofs.lemmas.Int.{ints}
use Rattle.std.proofs.lemmas.List.{length_push}
use Rattle.std.proofs.lemmas.Option.{slice_get_within}
use Rattle.std.specs.Prelude.{◌+ℤ◌, ◌-ℤ◌, ◌≤ℤ◌, neg_ℤ, is_some, not, slice_get, MatchBool, MatchOption}
use Rattle.std.specs.List.{AllByRecursion}
use Rattle.hs_base.specs.declared.limits.TheConstants.{LAST}
use Rattle.hs_base.specs.declared.mission.Mission.{Mission}
use Rattle.hs_base.specs.declared.net.Bound.{Bound}
use Rattle.hs_base.specs.declared.plan.Extension.{Extension}
use Rattle.hs_base.specs.declared.plan.Time.{Time}
use Rattle.hs_base.proofs.RuleLemmas.{base_kept, limits_kept}
use Rattle.hs_base.specs.Bounds.{bounds_of}
use Rattle.hs_base.specs.Checked.{Checked, KeepsRules}
use Rattle.hs_base.specs.Fits.{Breaks}
use Rattle.hs_base.specs.Missions.{IsMission}
use Rattle.hs_base.specs.Moments.{Moment, MayGoOn, IsLate}
use Rattle.hs_base.specs.Points.{Point, count, hor, points_of, tokens_of, device_ends, is_observed}
use Rattle.hs_base.specs.Ranges.{whole, range, InRange}
use Rattle.hs_base.specs.Reduced.{IsReducedOf}
use Rattle.hs_base.specs.Schedule.{Schedule, Meets, Tight, bound}
use Rattle.hs_base.specs.Walks.{EachAfter}
use Rattle.hs_machine.specs.declared.history.Deed.{Deed}
use Rattle.hs_machine.specs.declared.history.Deed.TheVariants.{Tick, Fire, Report, Handover, Stale, Late, Early, Broken}
use Rattle.hs_machine.specs.declared.history.Entry.{Entry}
use Rattle.hs_machine.specs.declared.history.Phase.TheVariants.{Running}
use Rattle.hs_machine.specs.State.{is_tick, ticks_of, now_of, plan_of, count_at, executed, tick_at, moment_of, phase_of}
use Rattle.hs_machine.specs.Machine.{Event, Reply, tick, report, broken, handover, done, failed, stale, over, no_net, no_point, not_observed, already, Replies, EventReply, ToldReply, HandoverReply, PointReply, RefusedIf, IsLeftBy}
use Rattle.hs_machine.specs.Run.{MayAdd, Run}
use Rattle.log_laws.specs.LogText.{log_text}
use Rattle.base_laws.proofs.ListLemmas.{snoc_induction, EachAfter-push, EachAfter-more, EachAfter-both, each_weaker}
use Rattle.base_laws.proofs.PointLemmas.{named, count-push}
use Rattle.plan_laws.proofs.FitLemmas.{after_origin, before_last}
use Rattle.run_laws.proofs.StateLemmas.{now_of-push}
use Rattle.run_laws.proofs.RunLemmas.{otherwise, event_reply, offered_base, run_fits}
use Rattle.run_laws.proofs.CheckedLemmas.{handed_plan, run_checked}
use Rattle.exec_laws.proofs.StepLemmas.{run_more, running}
use Rattle.exec_laws.proofs.ReplyLemmas.{may_execute, answered_running, done_running}
use Rattle.exec_laws.proofs.RunningLemmas.{executed_in}
use Rattle.text_laws.specs.WritablePlans.{IsWritableExtension, IsWritableFix}
use Rattle.text_laws.proofs.PlanPrintedLemmas.{HasPoint}
use Rattle.text_laws.proofs.PlanMeaningLemmas.{IsKnown}
use Rattle.text_laws.proofs.PlanSpellingLemmas.{known_more, point_of}
use Rattle.plan_text.proofs.CheckedLemmas.{checked_writable}
use Rattle.journal_laws.proofs.DeedLemmas.{IsToldBound, IsToldExtension, IsToldDeed}
use Rattle.journal_laws.proofs.HistoryLemmas.{IsToldEntry, IsTold, one_log}

-- Plans.

-- a plan's variables are the mission's, and its points are few
record IsPlan (m : Mission) (es : List Extension) : Type 0 where
  known : AllByRecursion (IsKnown m) (tokens_of es)
  few : count es ≤ 1 + length es * 129
  extensions : length es ≤ 1000

plan-push : (m : Mission) (es : List Extension) (e : Extension) → IsMission m → KeepsRules m es e × IsWritableExtension m es e → IsPlan m es → IsPlan m (es ++ e ∷ [])
plan-push m es e i h p =
    let one = length_push es e in
    let more = count-push es e in
    let tokens : length e.tokens ≤ 128 = (limits_kept h.0).tokens in
    let horizons : length m.horizons ≤ 1000 = i.few_horizons in
    record {
      known = known_more m es e p.known h.1.tokens;
      few = omega (arith, one, more, tokens, p.few);
      extensions = omega (arith, one, horizons, (base_kept h.0).horizon_left);
    }

checked_plan : (m : Mission) (es : List Extension) → Checked m es → IsPlan m es
checked_plan m es c =
    snoc_induction (IsPlan m) (λ b e. KeepsRules m b e × IsWritableExtension m b e) (λ b e h p. plan-push m b e c.mission h p) [] es (record { known = tt; few = omega arith; extensions = omega arith })
    (EachAfter-both (KeepsRules m) (IsWritableExtension m) [] es c.rules (checked_writable m es c).each)

plan_of_run : (m : Mission) (h : List Entry) → Run m h → IsPlan m (plan_of h)
plan_of_run m h run = by_plan (plan_of h) refl
  where
    by_plan : (es : List Extension) → plan_of h ≡ es → IsPlan m (plan_of h)
    by_plan [] is = subst (IsPlan m) (sym is) (record { known = tt; few = omega arith; extensions = omega arith })
    by_plan (e ∷ es) is = checked_plan m (plan_of h) (run_checked m h run (λ none. let bad : e ∷ es ≡ [] = sym is ∙ none in absurd cc))

-- a point by its number is told
told_point : (m : Mission) (es : List Extension) (x : ℕ) → IsPlan m es → x < count es → HasPoint m (points_of es) x
told_point m es x p below = point_of m es p.known (omega (arith, p.few, p.extensions)) x below

-- the last extension of a checked plan is told
told_extension : (m : Mission) (es : List Extension) (e : Extension) → IsPlan m es → Checked m (es ++ e ∷ []) → IsToldExtension m es e
told_extension m es e p c =
    let w = (EachAfter-push (IsWritableExtension m) [] es e (checked_writable m (es ++ e ∷ []) c).each).1 in
    record {
      base = w.base;
      body = record {
        since = w.since;
        fixed = each_weaker (IsWritableFix es) (λ (t : Time). HasPoint m (points_of es) t.point.0 × InRange whole t.at) (λ t k. (told_point m es t.point.0 p k.below, k.at)) e.fixed w.fixed;
        tokens = w.tokens;
        supports = w.supports;
        goals = w.goals;
      };
    }

-- a tight weight between two points is a difference of times
tight_in : (m : Mission) (es : List Extension) (p q : ℕ) (w : ℤ) (s : Schedule) → Meets (bounds_of m es) s → p < count es → q < count es → Tight (bounds_of m es) p q w → InRange (range (neg_ℤ LAST) LAST) w
tight_in m es p q w s meets bp bq tight =
    let high : w ≤ℤ LAST = tight.least LAST (record { holds = λ t k. omega (arith, ints, (after_origin m es p bp).holds t k, (before_last m es q bq).holds t k) }) in
    let low : (s q -ℤ s p) ≤ℤ w = tight.implied.holds s meets in
    let late : (s p -ℤ s 0) ≤ℤ pos 1000000000 = (before_last m es p bp).holds s meets in
    let early : (s 0 -ℤ s q) ≤ℤ pos 0 = (after_origin m es q bq).holds s meets in
    (omega (arith, ints, low, late, early), high)

-- The time.

-- a tick is taken in a running state, whose horizon's point is still to come
tick_in : (m : Mission) (h : List Entry) → Run m h → Replies m h tick done → now_of h + 1 ≤ 1000000000
tick_in m h run lawful =
    let is = running h (done_running m h tick lawful refl) in
    let es = plan_of h in
    let may : MayGoOn (moment_of m h) = event_reply m h tick lawful in
    let mark = hor es (length es) in
    let some : 0 < length es = some_plan es is.some in
    let below : mark < count es = (named es).marks_there (length es) some (omega arith) in
    let free : executed h mark ≡ None = open_mark (executed h mark) is.open_mark in
    let later : (tick_at h +ℤ pos 1) ≤ℤ may.s mark = may.later mark below free in
    let last : (may.s mark -ℤ may.s 0) ≤ℤ pos 1000000000 = (before_last m es mark below).holds may.s may.fits.meets in
    omega (arith, ints, later, last, may.fits.meets.origin)
  where
    some_plan : (es : List Extension) → es ≢ [] → 0 < length es
    some_plan [] some = absurd (some refl)
    some_plan (e ∷ es) some = omega arith

    open_mark : (o : Option ℤ) → is_some o ≡ false → o ≡ None
    open_mark None is = refl
    open_mark (Some t) is = absurd cc

record HasRun (m : Mission) (h : List Entry) : Type 0 where
  run : Run m h
  now : now_of h ≤ 1000000000

run_begun : (m : Mission) → IsMission m → HasRun m []
run_begun m i = record { run = record { mission = i; entries = tt }; now = omega arith }

run_on : (m : Mission) (h : List Entry) (e : Entry) → MayAdd m h e → HasRun m h → HasRun m (h ++ e ∷ [])
run_on m h e adds k = record {
  run = run_more m h e k.run adds;
  now = by_tick (is_tick e.deed) refl;
}
  where
    by_tick : (b : Bool) → is_tick e.deed ≡ b → now_of (h ++ e ∷ []) ≤ 1000000000
    by_tick false is = let one : ticks_of e ≡ 0 = ap (λ (t : Bool). cond t 1 0) is in omega (arith, now_of-push h e, one, k.now)
    by_tick true is =
        let lawful = ticked e.deed adds.answers.leaves.1 is in
        let one : ticks_of e ≡ 1 = ap (λ (t : Bool). cond t 1 0) is in
        omega (arith, now_of-push h e, one, tick_in m h k.run lawful)
      where
        ticked : (d : Deed) → IsLeftBy m d adds.event adds.reply → is_tick d ≡ true → Replies m h tick done
        ticked Tick left is2 = rw (left.0, left.1) at adds.answers.lawful
        ticked (Fire x) left is2 = absurd cc
        ticked (Report x) left is2 = absurd cc
        ticked (Handover x n) left is2 = absurd cc
        ticked (Stale x b p q) left is2 = absurd cc
        ticked (Late b) left is2 = absurd cc
        ticked (Early b) left is2 = absurd cc
        ticked (Broken v) left is2 = absurd cc

-- Deeds.

-- a reply that is neither Over nor NoNet is one to the event itself
reply_itself : (m : Mission) (h : List Entry) (event : Event) (reply : Reply) → Replies m h event reply → (reply ≡ over → ⊥) → (reply ≡ no_net → ⊥) → EventReply m h event reply
reply_itself m h event reply lawful other another = otherwise _ _ _ (otherwise _ _ _ lawful other) another

-- a point that is answered otherwise than by NoPoint is one of the plan
point_there : (w : Moment) (x : ℕ) (reply : Reply) (P : Type 0) → (reply ≡ no_point → ⊥) → PointReply w x reply P → x < w.points
point_there w x reply P other r = by_case (nat_le w.points x) refl _ r
  where
    by_case : (b : Bool) → nat_le w.points x ≡ b → (Q : Type 0) → MatchBool b (reply ≡ no_point) Q → x < w.points
    by_case true is Q r = absurd (other r)
    by_case false is Q r = grind (arith, nat_tests)

-- an observed point is one of the plan
observed_there : (m : Mission) (es : List Extension) (x : ℕ) → is_observed m es x ≡ true → x < count es
observed_there m es x is = by_case (slice_get (points_of es) x) refl is
  where
    by_case : (o : Option Point) → slice_get (points_of es) x ≡ o → device_ends m es o ≡ true → x < count es
    by_case None at is = absurd cc
    by_case (Some p) at is = slice_get_within (points_of es) x p at

-- a running state has a plan with a schedule
schedule_of : (m : Mission) (h : List Entry) → Run m h → phase_of h ≡ Running → (s : Schedule) × Meets (bounds_of m (plan_of h)) s
schedule_of m h run is = let k = run_fits m h run (running h is).some in (k.s, k.fits.meets)

late_told : (m : Mission) (h : List Entry) (b : Bound) → Run m h → Replies m h tick (failed b) → IsToldBound m (plan_of h) b
late_told m h b run lawful =
    let es = plan_of h in
    let p = plan_of_run m h run in
    let is = answered_running m h tick (failed b) lawful refl (λ (e : failed b ≡ over). cc) (λ (e : failed b ≡ no_net). cc) in
    let s = schedule_of m h run is in
    let r : IsLate (moment_of m h) b = (reply_itself m h tick (failed b) lawful (λ (e : failed b ≡ over). cc) (λ (e : failed b ≡ no_net). cc)).2 in
    let l = r.0 in
    let from = (executed_in m h run).within l.from l.at_from l.set in
    let to = observed_there m es l.to l.watched in
    let late : Bound = bound l.from l.to l.most in
    let same : late ≡ b = sym {b = late} r.1 in
    subst (IsToldBound m es) {x = late} same (record { from = told_point m es l.from p from; to = told_point m es l.to p to; most = tight_in m es l.from l.to l.most s.0 s.1 from to l.tight })

early_told : (m : Mission) (h : List Entry) (b : Bound) → Run m h → Replies m h (report b.from.0) (failed b) → IsToldBound m (plan_of h) b
early_told m h b run lawful =
    let es = plan_of h in
    let p = plan_of_run m h run in
    let w = moment_of m h in
    let is = answered_running m h (report b.from.0) (failed b) lawful refl (λ (e : failed b ≡ over). cc) (λ (e : failed b ≡ no_net). cc) in
    let s = schedule_of m h run is in
    let rest : Type 0 = RefusedIf (not (w.observed b.from.0)) not_observed (failed b) (ToldReply w b.from.0 (failed b)) in
    let r : PointReply w b.from.0 (failed b) rest = reply_itself m h (report b.from.0) (failed b) lawful (λ (e : failed b ≡ over). cc) (λ (e : failed b ≡ no_net). cc) in
    let from = point_there w b.from.0 (failed b) rest (λ (e : failed b ≡ no_point). cc) r in
    let open_point : MatchOption (w.at b.from.0) rest (λ t. failed b ≡ already t) = otherwise (nat_le w.points b.from.0) (failed b ≡ no_point) _ r (λ (e : failed b ≡ no_point). cc) in
    let watched_point : rest = inside (w.at b.from.0) rest open_point in
    let told : ToldReply w b.from.0 (failed b) = otherwise (not (w.observed b.from.0)) (failed b ≡ not_observed) (ToldReply w b.from.0 (failed b)) watched_point (λ (e : failed b ≡ not_observed). cc) in
    let f = told.1.0 in
    let barred : Bound = bound b.from.0 f.to f.most in
    let same : barred ≡ b = sym {b = barred} told.1.1 in
    subst (IsToldBound m es) {x = barred} same (record { from = told_point m es b.from.0 p from; to = told_point m es f.to p f.below; most = tight_in m es b.from.0 f.to f.most s.0 s.1 from f.below f.tight })
  where
    inside : (o : Option ℤ) (P : Type 0) → MatchOption o P (λ t. failed b ≡ already t) → P
    inside None P r = r
    inside (Some t) P r = absurd cc

-- the times of executed points
past_in : (m : Mission) (h : List Entry) (x : ℕ) (t : ℤ) → HasRun m h → executed h x ≡ Some t → InRange whole t
past_in m h x t k is = by_plan (plan_of h) refl
  where
    late : t ≤ℤ LAST
    late = omega (arith, ints, (executed_in m h k.run).late x t is, k.now)

    by_plan : (es : List Extension) → plan_of h ≡ es → InRange whole t
    by_plan [] none =
        let within : x < 1 = omega (arith, (executed_in m h k.run).within x t is, ap count none) in
        let origin : x ≡ 0 = omega (arith, within) in
        let zero : Some (pos 0) ≡ Some t = sym (ap (executed h) origin) ∙ is in
        let value : pos 0 ≡ t = cc in
        (omega (arith, ints, value), late)
    by_plan (e ∷ es) some =
        let f = run_fits m h k.run (λ none. let bad : e ∷ es ≡ [] = sym some ∙ none in absurd cc) in
        let early : (f.s 0 -ℤ f.s x) ≤ℤ pos 0 = (after_origin m (plan_of h) x ((executed_in m h k.run).within x t is)).holds f.s f.fits.meets in
        (omega (arith, ints, early, f.fits.meets.origin, f.fits.past x t is), late)

stale_told : (m : Mission) (h : List Entry) (e : Extension) (b : Bound) (p q : ℤ) (event : Event) (reply : Reply) → HasRun m h → Replies m h event reply → IsLeftBy m (Stale e b p q) event reply → IsToldDeed m (plan_of h) (Stale e b p q)
stale_told m h e b p q event reply k lawful left =
    let offer = left.0 ++ e ∷ [] in
    let here : Replies m h (handover m offer) (stale b p q) = rw (left.1, left.2) at lawful in
    let r : HandoverReply m h m offer (stale b p q) = reply_itself m h (handover m offer) (stale b p q) here (λ (x : stale b p q ≡ over). cc) (λ (x : stale b p q ≡ no_net). cc) in
    let base : left.0 ≡ plan_of h = offered_base left.0 (plan_of h) e r.1.1 in
    let more = plan_of h ++ e ∷ [] in
    let same : offer ≡ more = ap (λ (es : List Extension). es ++ e ∷ []) base in
    let checked : Checked m more = subst (Checked m) same left.3 in
    let breaks : Breaks (count more) (bounds_of m more) (executed h) (tick_at h) b p q = subst (λ (es : List Extension). Breaks (count es) (bounds_of m es) (executed h) (tick_at h) b p q) same r.3 in
    let plan = plan_of_run m h k.run in
    let offered = checked_plan m more checked in
    let wider : (x : ℕ) → x < count_at h → x < count more = λ x below. omega (arith, below, count-push (plan_of h) e) in
    let from = wider b.from.0 ((executed_in m h k.run).within b.from.0 p breaks.set) in
    let to : (b.to.0 < count more) × InRange whole q = taken b.to.0 breaks.taken wider in (
      told_extension m (plan_of h) e plan checked,
      record {
        from = told_point m more b.from.0 offered from;
        to = told_point m more b.to.0 offered to.0;
        most = tight_in m more b.from.0 b.to.0 b.most checked.schedule checked.meets from to.0 breaks.tight;
      },
      past_in m h b.from.0 p k breaks.set,
      to.1,
    )
  where
    taken : (x : ℕ) → ((executed h x ≡ Some q) ⊎ ((executed h x ≡ None) × (x < count (plan_of h ++ e ∷ [])) × (q ≡ tick_at h))) → ((y : ℕ) → y < count_at h → y < count (plan_of h ++ e ∷ [])) → (x < count (plan_of h ++ e ∷ [])) × InRange whole q
    taken x (inl is) wider = (wider x ((executed_in m h k.run).within x q is), past_in m h x q k is)
    taken x (inr now) wider = (now.1, (omega (arith, ints, now.2), omega (arith, ints, now.2, k.now)))

deed_told : (m : Mission) (h : List Entry) (d : Deed) (event : Event) (reply : Reply) → HasRun m h → Replies m h event reply → IsLeftBy m d event reply → IsToldDeed m (plan_of h) d
deed_told m h Tick event reply k lawful left = tt
deed_told m h (Fire x) event reply k lawful left = told_point m (plan_of h) x.0 (plan_of_run m h k.run) (may_execute m h (Fire x) x event reply lawful left refl).below
deed_told m h (Report x) event reply k lawful left = told_point m (plan_of h) x.0 (plan_of_run m h k.run) (may_execute m h (Report x) x event reply lawful left refl).below
deed_told m h (Handover e n) event reply k lawful left =
    let base = handed_plan m h e n event reply lawful left in
    let same : left.0 ++ e ∷ [] ≡ plan_of h ++ e ∷ [] = ap (λ (es : List Extension). es ++ e ∷ []) base in
    (told_extension m (plan_of h) e (plan_of_run m h k.run) (subst (Checked m) same left.4), subst (λ (es : List Extension). IsReducedOf (count es) (bounds_of m es) n) same left.3)
deed_told m h (Stale e b p q) event reply k lawful left = stale_told m h e b p q event reply k lawful left
deed_told m h (Late b) event reply k lawful left = let here : Replies m h tick (failed b) = rw (left.0, left.1) at lawful in late_told m h b k.run here
deed_told m h (Early b) event reply k lawful left = let here : Replies m h (report b.from.0) (failed b) = rw (left.0, left.1) at lawful in early_told m h b k.run here
deed_told m h (Broken v) event reply k lawful left =
    let here : Replies m h (broken v.0) done = rw (left.0, left.1) at lawful in
    variable_there (nat_le (length m.vars) v.0) refl _ (event_reply m h (broken v.0) here)
  where
    variable_there : (b : Bool) → nat_le (length m.vars) v.0 ≡ b → (P : Type 0) → MatchBool b (done ≡ no_point) P → v.0 < length m.vars
    variable_there true is P r = absurd (let e : done ≡ no_point = r in cc)
    variable_there false is P r = grind (arith, nat_tests)

-- Runs.

record HasTold (m : Mission) (h : List Entry) : Type 0 where
  so_far : HasRun m h
  each : EachAfter (IsToldEntry m) [] h

-- the log of a run tells it
run_told : (m : Mission) (h : List Entry) → Run m h → IsTold m h
run_told m h run =
    let t = snoc_induction (HasTold m) (MayAdd m) step [] h (record { so_far = run_begun m run.mission; each = tt }) run.entries in
    record { mission = run.mission; now = t.so_far.now; each = t.each }
  where
    step : (b : List Entry) (e : Entry) → MayAdd m b e → HasTold m b → HasTold m (b ++ e ∷ [])
    step b e adds k = record {
      so_far = run_on m b e adds k.so_far;
      each = EachAfter-more (IsToldEntry m) [] b e k.each (record { now = k.so_far.now; deed = deed_told m b e.deed adds.event adds.reply k.so_far adds.answers.lawful adds.answers.leaves.1 });
    }

-- two runs with one log have the same deeds
pub runs_with_one_log : (m : Mission) (h g : List Entry) → Run m h → Run m g → log_text m h ≡ log_text m g → map (λ (e : Entry). e.deed) h ≡ map (λ (e : Entry). e.deed) g
runs_with_one_log m h g a b e = one_log m h g (run_told m h a) (run_told m g b) e

-- entries of the same passes and deeds are the same
same_entries : (h g : List Entry) → map (λ (e : Entry). e.by) h ≡ map (λ (e : Entry). e.by) g → map (λ (e : Entry). e.deed) h ≡ map (λ (e : Entry). e.deed) g → h ≡ g
same_entries [] [] by deed = refl
same_entries [] (y ∷ g) by deed = absurd cc
same_entries (x ∷ h) [] by deed = absurd cc
same_entries (x ∷ h) (y ∷ g) by deed =
    let pass : x.by ≡ y.by = cc in
    let made : x.deed ≡ y.deed = cc in
    let passes : map (λ (e : Entry). e.by) h ≡ map (λ (e : Entry). e.by) g = cc in
    let deeds : map (λ (e : Entry). e.deed) h ≡ map (λ (e : Entry). e.deed) g = cc in
    let here : x ≡ y = grind (arith, pass, made) in
    ap (λ (e : Entry). e ∷ h) here ∙ ap (λ (l : List Entry). y ∷ l) (same_entries h g passes deeds)

pub runs_of_one_log : (m : Mission) (h g : List Entry) → Run m h → Run m g → log_text m h ≡ log_text m g → map (λ (e : Entry). e.by) h ≡ map (λ (e : Entry). e.by) g → h ≡ g
runs_of_one_log m h g a b e by = same_entries h g by (runs_with_one_log m h g a b e)
