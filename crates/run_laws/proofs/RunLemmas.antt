-- What every run keeps: each point is executed once, and some schedule fits.
use Rattle.std.proofs.Common.{◌≡◌, ℕ, ◌+◌, Bool, true, false, cond, nat_eq, ℤ, pos, List, [], ◌∷◌, ◌++◌, take, Option, Some, None, refl, sym, ap, ◌∙◌, subst, arith, length-append, add-zero, inl, inr}
use Rattle.std.proofs.lemmas.Int.{ints}
use Rattle.std.proofs.lemmas.Bool.{cases_Bool, eqb-true}
use Rattle.std.specs.Prelude.{MatchBool, MatchOption, ◌≤ℤ◌, ◌+ℤ◌, ◌<◌}
use Rattle.std.proofs.Math.Seq.{take-append_seam}
use Rattle.hs_base.specs.declared.ids.PointId.{PointId}
use Rattle.hs_base.specs.declared.plan.Extension.{Extension}
use Rattle.hs_base.specs.declared.mission.Mission.{Mission}
use Rattle.hs_machine.specs.declared.history.Deed.{Deed}
use Rattle.hs_machine.specs.declared.history.Deed.TheVariants.{Tick, Fire, Report, Handover, Stale, Late, Early, Broken}
use Rattle.hs_machine.specs.declared.history.Entry.{Entry}
use Rattle.hs_base.specs.Points.{count}
use Rattle.hs_base.specs.Bounds.{bounds_of}
use Rattle.hs_base.specs.Schedule.{Schedule}
use Rattle.hs_base.specs.Fits.{Times, Fits, put, EachOnce, time_at}
use Rattle.hs_base.specs.Moments.{Moment, MayFire, MayGoOn}
use Rattle.hs_machine.specs.State.{now_of, times_of, plan_of, hands_over, executes, is_tick, executed, count_at, bounds_at, tick_at, moment_of, FitsState}
use Rattle.hs_machine.specs.Machine.{Event, tick, fire, report, handover, Reply, done, observed, not_observed, over, no_net, no_point, already, OwnReply, HandoverReply, PointReply, EventReply, Replies, IsLeftBy, base_of}
use Rattle.hs_machine.specs.Run.{MayAdd, Run}
use Rattle.base_laws.proofs.ListLemmas.{snoc_induction}
use Rattle.run_laws.proofs.StateLemmas.{times_executed, now_of-push, plan_kept, plan_handed, times_kept, executed-put, EachOnce-push}

-- where the test's first case is ruled out, the second holds
pub otherwise : (b : Bool) (P Q : Type 0) → MatchBool b P Q → (P → ⊥) → Q
otherwise true P Q h never = absurd (never h)
otherwise false P Q h never = h

-- a reply Done is one to the event itself
pub event_reply : (m : Mission) (h : List Entry) (event : Event) → Replies m h event done → EventReply m h event done
event_reply m h event lawful = otherwise _ _ _ (otherwise _ _ _ lawful (λ (e : done ≡ over). cc)) (λ (e : done ≡ no_net). cc)

-- a reply Done about a point: it was not executed before, and the rest holds
pub point_new : (w : Moment) (x : ℕ) (P : Type 0) → PointReply w x done P → w.at x ≡ None
point_new w x P reply = inside (w.at x) (otherwise _ _ _ reply (λ (e : done ≡ no_point). cc))
  where
    inside : (o : Option ℤ) → MatchOption o P (λ at. done ≡ already at) → o ≡ None
    inside None r = refl
    inside (Some at) r = absurd (cc)

pub point_rest : (w : Moment) (x : ℕ) (P : Type 0) → PointReply w x done P → P
point_rest w x P reply = inside (w.at x) (otherwise _ _ _ reply (λ (e : done ≡ no_point). cc))
  where
    inside : (o : Option ℤ) → MatchOption o P (λ at. done ≡ already at) → P
    inside None r = r
    inside (Some at) r = absurd (cc)

-- a Fire that is answered Done
pub fired : (m : Mission) (h : List Entry) (x : ℕ) → Replies m h (fire x) done → (executed h x ≡ None) × MayFire (moment_of m h) x
fired m h x lawful =
    let reply = event_reply m h (fire x) lawful in
    let r : OwnReply (moment_of m h) x done = otherwise _ _ _ (point_rest (moment_of m h) x _ reply) (λ (e : done ≡ observed). cc) in
    (point_new (moment_of m h) x _ reply, r.1)

-- a Report that is answered Done
pub reported : (m : Mission) (h : List Entry) (x : ℕ) → Replies m h (report x) done → (executed h x ≡ None) × MayFire (moment_of m h) x
reported m h x lawful =
    let reply = event_reply m h (report x) lawful in
    (point_new (moment_of m h) x _ reply, otherwise _ _ _ (point_rest (moment_of m h) x _ reply) (λ (e : done ≡ not_observed). cc))

-- a point that an entry executes was not executed before
pub fresh : (m : Mission) (h : List Entry) (d : Deed) (x : PointId) (event : Event) (reply : Reply) → Replies m h event reply → IsLeftBy m d event reply → executes d ≡ Some x → executed h x.0 ≡ None
fresh m h (Fire y) x event reply lawful left ex =
    let same : y ≡ x = cc in
    let here : Replies m h (fire y.0) done = rw (left.0, left.1) at lawful in
    subst (λ (z : PointId). executed h z.0 ≡ None) same (fired m h y.0 here).0
fresh m h (Report y) x event reply lawful left ex =
    let same : y ≡ x = cc in
    let here : Replies m h (report y.0) done = rw (left.0, left.1) at lawful in
    subst (λ (z : PointId). executed h z.0 ≡ None) same (reported m h y.0 here).0
fresh m h _ x event reply lawful left ex = absurd (cc)

-- one more entry keeps each point once
once-push : (m : Mission) (h : List Entry) (e : Entry) → MayAdd m h e → EachOnce (times_of h) → EachOnce (times_of (h ++ e ∷ []))
once-push m h e adds once = by_case (executes e.deed) refl
  where
    by_case : (o : Option PointId) → executes e.deed ≡ o → EachOnce (times_of (h ++ e ∷ []))
    by_case None is = subst EachOnce (sym (times_kept h e is)) once
    by_case (Some x) is = subst EachOnce (sym (times_executed h e x is)) (EachOnce-push (times_of h) (record { point = x; at = pos (now_of h) }) once (fresh m h e.deed x _ _ adds.answers.lawful adds.answers.leaves.1 is))

-- in a run each point is executed at most once
pub each_once : (m : Mission) (h : List Entry) → Run m h → EachOnce (times_of h)
each_once m h run = snoc_induction (λ h. EachOnce (times_of h)) (MayAdd m) (once-push m) [] h (refl, tt) run.entries

-- some schedule fits the state
pub record HasFit (m : Mission) (h : List Entry) : Type 0 where
  pub s : Schedule
  pub fits : FitsState m h s

-- what fits other times that are the same
pub fits_same : (m : Mission) (es fs : List Extension) (at to : Times) (n k : ℕ) (s : Schedule) → es ≡ fs → ((x : ℕ) → to x ≡ at x) → n ≡ k → Fits (count es) (bounds_of m es) at (pos n) s → Fits (count fs) (bounds_of m fs) to (pos k) s
fits_same m es fs at to n k s p t q fits =
    subst (λ (l : List Extension). Fits (count l) (bounds_of m l) to (pos k) s) p (subst (λ (i : ℕ). Fits (count es) (bounds_of m es) to (pos i) s) q (record {
      meets = fits.meets;
      past = λ x u is. fits.past x u (sym (t x) ∙ is);
      future = λ x below none. fits.future x below (sym (t x) ∙ none);
    }))

-- a tick keeps a schedule that gives every other point a later time
after_tick : (m : Mission) (h : List Entry) (s : Schedule) → FitsState m h s → ((x : ℕ) → x < count_at h → executed h x ≡ None → (tick_at h +ℤ pos 1) ≤ℤ s x) → Fits (count_at h) (bounds_at m h) (executed h) (pos (now_of h + 1)) s
after_tick m h s fits later = record { meets = fits.meets; past = fits.past; future = λ x below free. omega (arith, ints, later x below free) }

put-past : (at : Times) (x : ℕ) (n : ℤ) (s : Schedule) → ((y : ℕ) (t : ℤ) → at y ≡ Some t → s y ≡ t) → s x ≡ n → (y : ℕ) (t : ℤ) → put at x n y ≡ Some t → s y ≡ t
put-past at x n s past here y t is = elim (cases_Bool (nat_eq y x)) [
  | inl same ↦
      let there : Some n ≡ Some t = rw same at is in
      let value : n ≡ t = cc in
      ap s (eqb-true y x same) ∙ here ∙ value
  | inr apart ↦ past y t (rw apart at is)
]

put-none : (at : Times) (x : ℕ) (n : ℤ) (y : ℕ) → put at x n y ≡ None → at y ≡ None
put-none at x n y none = elim (cases_Bool (nat_eq y x)) [ inl same ↦ absurd (let e : Some n ≡ None = rw same at none in cc) | inr apart ↦ rw apart at none ]

-- a point executed now keeps a schedule that gives it now
after_point : (m : Mission) (h : List Entry) (s : Schedule) (x : ℕ) → FitsState m h s → s x ≡ tick_at h → Fits (count_at h) (bounds_at m h) (put (executed h) x (tick_at h)) (tick_at h) s
after_point m h s x fits here = record {
  meets = fits.meets;
  past = put-past (executed h) x (tick_at h) s fits.past here;
  future = λ y below free. fits.future y below (put-none (executed h) x (tick_at h) y free);
}

-- what is left out of the offered plan is the plan so far
pub offered_base : (es base : List Extension) (e : Extension) → base_of (es ++ e ∷ []) ≡ base → es ≡ base
offered_base es base e is = sym (take-append_seam es (e ∷ [])) ∙ ap (λ n. take n (es ++ e ∷ [])) (omega (arith, length-append es (e ∷ []))) ∙ is

-- an entry that changes neither plan nor times nor time
idle : (m : Mission) (h : List Entry) (e : Entry) → hands_over e.deed ≡ None → executes e.deed ≡ None → is_tick e.deed ≡ false → ((plan_of h ≡ [] → ⊥) → HasFit m h) → (plan_of (h ++ e ∷ []) ≡ [] → ⊥) → HasFit m (h ++ e ∷ [])
idle m h e no_plan no_time no_tick had some =
    let same : plan_of (h ++ e ∷ []) ≡ plan_of h = plan_kept h e no_plan in
    let f : HasFit m h = had (λ none. some (same ∙ none)) in
    let clock : now_of (h ++ e ∷ []) ≡ now_of h = now_of-push h e ∙ ap (λ b. now_of h + cond b 1 0) no_tick ∙ add-zero (now_of h) in
    record { s = f.s; fits = fits_same m _ _ _ _ _ _ f.s (sym same) (λ x. ap (λ ts. time_at ts x) (times_kept h e no_time)) (sym clock) f.fits }

-- an entry of a point that is executed now
executes_now : (m : Mission) (h : List Entry) (e : Entry) (x : PointId) → hands_over e.deed ≡ None → executes e.deed ≡ Some x → is_tick e.deed ≡ false → executed h x.0 ≡ None → MayFire (moment_of m h) x.0 → HasFit m (h ++ e ∷ [])
executes_now m h e x no_plan is no_tick free may =
    let clock : now_of (h ++ e ∷ []) ≡ now_of h = now_of-push h e ∙ ap (λ b. now_of h + cond b 1 0) no_tick ∙ add-zero (now_of h) in
    record { s = may.s; fits = fits_same m _ _ _ _ _ _ may.s (sym (plan_kept h e no_plan)) (λ y. executed-put h e x y is free) (sym clock) (after_point m h may.s x.0 may.fits may.here) }

-- what an entry leaves has a schedule that fits, where there is a plan
fit-push : (m : Mission) (h : List Entry) (by : ℕ) (d : Deed) (event : Event) (reply : Reply) → Replies m h event reply → IsLeftBy m d event reply → ((plan_of h ≡ [] → ⊥) → HasFit m h) → (plan_of (h ++ record { by = by; deed = d } ∷ []) ≡ [] → ⊥) → HasFit m (h ++ record { by = by; deed = d } ∷ [])
fit-push m h by Tick event reply lawful left had some =
    let e : Entry = record { by = by; deed = Tick } in
    let here : Replies m h tick done = rw (left.0, left.1) at lawful in
    let may : MayGoOn (moment_of m h) = event_reply m h tick here in
    record { s = may.s; fits = fits_same m _ _ _ _ _ _ may.s (sym (plan_kept h e refl)) (λ x. ap (λ ts. time_at ts x) (times_kept h e refl)) (sym (now_of-push h e)) (after_tick m h may.s may.fits may.later) }
fit-push m h by (Fire x) event reply lawful left had some =
    let here : Replies m h (fire x.0) done = rw (left.0, left.1) at lawful in
    executes_now m h (record { by = by; deed = Fire x }) x refl refl refl (fired m h x.0 here).0 (fired m h x.0 here).1
fit-push m h by (Report x) event reply lawful left had some =
    let here : Replies m h (report x.0) done = rw (left.0, left.1) at lawful in
    executes_now m h (record { by = by; deed = Report x }) x refl refl refl (reported m h x.0 here).0 (reported m h x.0 here).1
fit-push m h by (Handover x n) event reply lawful left had some =
    let e : Entry = record { by = by; deed = Handover x n } in
    let here : Replies m h (handover m (left.0 ++ x ∷ [])) done = rw (left.1, left.2) at lawful in
    let r : HandoverReply m h m (left.0 ++ x ∷ []) done = event_reply m h (handover m (left.0 ++ x ∷ [])) here in
    let base : left.0 ≡ plan_of h = offered_base left.0 (plan_of h) x r.1.1 in
    record { s = r.2.0; fits = fits_same m _ _ _ _ _ _ r.2.0 (ap (λ l. l ++ x ∷ []) base ∙ sym (plan_handed h e x refl)) (λ y. ap (λ ts. time_at ts y) (times_kept h e refl)) (sym (now_of-push h e ∙ add-zero (now_of h))) r.2.1 }
fit-push m h by (Stale x b p q) event reply lawful left had some = idle m h (record { by = by; deed = Stale x b p q }) refl refl refl had some
fit-push m h by (Late b) event reply lawful left had some = idle m h (record { by = by; deed = Late b }) refl refl refl had some
fit-push m h by (Early b) event reply lawful left had some = idle m h (record { by = by; deed = Early b }) refl refl refl had some
fit-push m h by (Broken v) event reply lawful left had some = idle m h (record { by = by; deed = Broken v }) refl refl refl had some

-- in a run with a plan some schedule fits
pub run_fits : (m : Mission) (h : List Entry) → Run m h → (plan_of h ≡ [] → ⊥) → HasFit m h
run_fits m h run = snoc_induction (λ h. (plan_of h ≡ [] → ⊥) → HasFit m h) (MayAdd m) (λ before e a had. fit-push m before e.by e.deed a.event a.reply a.answers.lawful a.answers.leaves.1 had) [] h (λ some. absurd (some refl)) run.entries
