-- A running state goes on: a tick, some fire or some report is answered with Done.
use Rattle.std.proofs.Common.{◌≡◌, ◌≢◌, ℕ, zero, suc, ◌<◌, ◌≤◌, true, false, nat_eq, nat_le, List, [], ◌∷◌, ◌++◌, Option, Some, None, refl, sym, ap, ◌∙◌, subst, arith, inl, inr, pos}
use Rattle.std.proofs.lemmas.Int.{ints}
use Rattle.std.proofs.lemmas.Bool.{cases_Bool, eqb-true}
use Rattle.std.proofs.lemmas.Bool.Decides.{nat_tests}
use Rattle.std.proofs.lemmas.Option.{slice_get_within}
use Rattle.std.specs.Prelude.{ℤ, ◌≤ℤ◌, slice_get}
use Rattle.hs_base.specs.declared.ids.PointId.{PointId}
use Rattle.hs_base.specs.declared.mission.Mission.{Mission}
use Rattle.hs_base.specs.declared.plan.Extension.{Extension}
use Rattle.hs_base.specs.declared.net.Net.{Net}
use Rattle.hs_machine.specs.declared.history.Entry.{Entry}
use Rattle.hs_machine.specs.declared.history.Deed.{Deed}
use Rattle.hs_machine.specs.declared.history.Deed.TheVariants.{Handover}
use Rattle.hs_machine.specs.declared.history.Phase.TheVariants.{Running}
use Rattle.hs_base.specs.Points.{Point, count, points_of, device_ends, is_observed}
use Rattle.hs_base.specs.Bounds.{bounds_of}
use Rattle.hs_base.specs.Network.{spread}
use Rattle.hs_base.specs.Reduced.{IsReducedOf}
use Rattle.hs_base.specs.Fits.{put, time_at, LateBound}
use Rattle.hs_base.specs.Moments.{MayFire, MustFire, IsUntied, AreAlike, Moment}
use Rattle.hs_base.specs.Schedule.{bound}
use Rattle.hs_base.specs.Dispatch.{IsReached}
use Rattle.hs_machine.specs.State.{now_of, plan_of, count_at, bounds_at, executed, tick_at, watched, moment_of, phase_of, executes, hands_over}
use Rattle.hs_machine.specs.Machine.{Event, Reply, tick, fire, report, handover, done, due, over, no_net, Replies, EventReply, HandoverReply, IsLeftBy}
use Rattle.hs_machine.specs.Run.{MayAdd, Run}
use Rattle.base_laws.proofs.ListLemmas.{snoc_induction}
use Rattle.base_laws.proofs.PointLemmas.{count-push}
use Rattle.run_laws.proofs.StateLemmas.{plan_kept, plan_handed, times_kept, executed-put, now_of-push}
use Rattle.run_laws.proofs.RunLemmas.{run_fits, event_reply, offered_base, otherwise}
use Rattle.net_laws.proofs.ExactLemmas.{reduced_again}
use Rattle.run_laws.proofs.CheckedLemmas.{handed_plan}
use Rattle.net_laws.proofs.AnswerLemmas.{fits_both}
use Rattle.net_laws.proofs.MoveLemmas.{tick_or}
use Rattle.exec_laws.specs.Running.{GoesOn}
use Rattle.exec_laws.proofs.SameLemmas as same
use Rattle.exec_laws.proofs.FollowLemmas.{has_same}
use Rattle.exec_laws.proofs.StepLemmas.{running, replies_running}
use Rattle.exec_laws.proofs.ReplyLemmas.{answered_running, may_execute}

-- a reduced network of the newest plan
pub record HasNet (m : Mission) (h : List Entry) : Type 0 where
  pub net : Net
  pub reduced : IsReducedOf (count_at h) (bounds_at m h) net

net_on : (m : Mission) (es fs : List Extension) (n : Net) → es ≡ fs → IsReducedOf (count es) (bounds_of m es) n → IsReducedOf (count fs) (bounds_of m fs) n
net_on m es fs n same r = subst (λ (l : List Extension). IsReducedOf (count l) (bounds_of m l) n) same r

net_push : (m : Mission) (h : List Entry) (by : ℕ) (d : Deed) (event : Event) (reply : Reply) → Replies m h event reply → IsLeftBy m d event reply → (plan_of h ≢ [] → HasNet m h) → plan_of (h ++ record { by = by; deed = d } ∷ []) ≢ [] → HasNet m (h ++ record { by = by; deed = d } ∷ [])
net_push m h by (Handover e n) event reply lawful left had some =
    let x : Entry = record { by = by; deed = Handover e n } in
    let base = handed_plan m h e n event reply lawful left in
    record { net = n; reduced = net_on m (left.0 ++ e ∷ []) (plan_of (h ++ x ∷ [])) n (ap (λ l. l ++ e ∷ []) base ∙ sym (plan_handed h x e refl)) left.3 }
net_push m h by d event reply lawful left had some = kept (hands_over d) refl
  where
    kept : (o : Option Extension) → hands_over d ≡ o → HasNet m (h ++ record { by = by; deed = d } ∷ [])
    kept None none =
        let x : Entry = record { by = by; deed = d } in
        let plan = plan_kept h x none in
        let k = had (λ (e : plan_of h ≡ []). some (plan ∙ e)) in
        record { net = k.net; reduced = net_on m (plan_of h) (plan_of (h ++ x ∷ [])) k.net (sym plan) k.reduced }
    kept (Some e) is = absurd (cc)

pub net_of : (m : Mission) (h : List Entry) → Run m h → plan_of h ≢ [] → HasNet m h
net_of m h run = snoc_induction (λ h. plan_of h ≢ [] → HasNet m h) (MayAdd m) (λ before e a had. net_push m before e.by e.deed a.event a.reply a.answers.lawful a.answers.leaves.1 had) [] h (λ some. absurd (some refl)) run.entries

-- executed points are points of the plan, and none is executed later than now
pub record AreExecuted (h : List Entry) : Type 0 where
  pub within : (x : ℕ) (t : ℤ) → executed h x ≡ Some t → x < count_at h
  pub late : (x : ℕ) (t : ℤ) → executed h x ≡ Some t → t ≤ℤ tick_at h

-- nothing but Z is executed at first
pub first_none : (x : ℕ) → executed [] (suc x) ≡ None
first_none x = let other : nat_eq 0 (suc x) ≡ false = grind (arith, nat_tests) in rw other refl

executed_push : (m : Mission) (h : List Entry) (e : Entry) → MayAdd m h e → AreExecuted h → AreExecuted (h ++ e ∷ [])
executed_push m h e adds k = by_case (executes e.deed) refl
  where
    plan_grows : count_at h ≤ count_at (h ++ e ∷ [])
    plan_grows = by_plan (hands_over e.deed) refl
      where
        by_plan : (o : Option Extension) → hands_over e.deed ≡ o → count_at h ≤ count_at (h ++ e ∷ [])
        by_plan None none = omega (arith, ap count (plan_kept h e none))
        by_plan (Some x) is = omega (arith, ap count (plan_handed h e x is), count-push (plan_of h) x)

    clock_grows : tick_at h ≤ℤ tick_at (h ++ e ∷ [])
    clock_grows = omega (arith, ints, now_of-push h e)

    by_case : (o : Option PointId) → executes e.deed ≡ o → AreExecuted (h ++ e ∷ [])
    by_case None none = record {
      within = λ x t is. let old = k.within x t (sym (ap (λ ts. time_at ts x) (times_kept h e none)) ∙ is) in omega (arith, old, plan_grows);
      late = λ x t is. let old = k.late x t (sym (ap (λ ts. time_at ts x) (times_kept h e none)) ∙ is) in omega (arith, ints, old, clock_grows);
    }
    by_case (Some y) ex =
        let may = may_execute m h e.deed y adds.event adds.reply adds.answers.lawful adds.answers.leaves.1 ex in
        let there : (x : ℕ) → executed (h ++ e ∷ []) x ≡ put (executed h) y.0 (pos (now_of h)) x = λ x. executed-put h e y x ex may.none in
        record {
          within = λ x t is. elim (cases_Bool (nat_eq x y.0)) [
            | inl same ↦ omega (arith, eqb-true x y.0 same, may.below, plan_grows)
            | inr other ↦ let old = k.within x t (rw other at (sym (there x) ∙ is)) in omega (arith, old, plan_grows)
          ];
          late = λ x t is. elim (cases_Bool (nat_eq x y.0)) [
            | inl same ↦ let now : Some (pos (now_of h)) ≡ Some t = rw same at (sym (there x) ∙ is) in let value : pos (now_of h) ≡ t = cc in omega (arith, ints, value, clock_grows)
            | inr other ↦ let old = k.late x t (rw other at (sym (there x) ∙ is)) in omega (arith, ints, old, clock_grows)
          ];
        }

pub executed_in : (m : Mission) (h : List Entry) → Run m h → AreExecuted h
executed_in m h run = snoc_induction AreExecuted (MayAdd m) (executed_push m) [] h (record { within = first_within; late = first_late }) run.entries
  where
    first_within : (x : ℕ) (t : ℤ) → executed [] x ≡ Some t → x < count_at []
    first_within zero t is = omega arith
    first_within (suc x) t is = absurd (let e : None ≡ Some t = sym (first_none x) ∙ is in cc)

    first_late : (x : ℕ) (t : ℤ) → executed [] x ≡ Some t → t ≤ℤ tick_at []
    first_late zero t is = let e : Some (pos 0) ≡ Some t = is in let value : pos 0 ≡ t = cc in omega (arith, ints, value)
    first_late (suc x) t is = absurd (let e : None ≡ Some t = sym (first_none x) ∙ is in cc)

-- an observed point is one of the plan
observed_below : (m : Mission) (es : List Extension) (x : ℕ) → is_observed m es x ≡ true → x < count es
observed_below m es x is = by_case (slice_get (points_of es) x) refl is
  where
    by_case : (o : Option Point) → slice_get (points_of es) x ≡ o → device_ends m es o ≡ true → x < count es
    by_case None at is = absurd (let e : false ≡ true = is in cc)
    by_case (Some p) at is = slice_get_within (points_of es) x p at

module _ (m : Mission) (h : List Entry) (run : Run m h) (is : phase_of h ≡ Running) where
  -- the fire of a point that may be executed, and its report
  pub fire_done : (x : ℕ) → x < count_at h → executed h x ≡ None → watched m h x ≡ false → IsUntied (moment_of m h) x → MayFire (moment_of m h) x → Replies m h (fire x) done
  fire_done x below none free untied may =
      let there : nat_le (count_at h) x ≡ false = grind (arith, nat_tests) in
      replies_running m h (fire x) done is (rw (there, none, free) (untied, may))

  pub report_done : (x : ℕ) → x < count_at h → executed h x ≡ None → watched m h x ≡ true → MayFire (moment_of m h) x → Replies m h (report x) done
  report_done x below none seen may =
      let there : nat_le (count_at h) x ≡ false = grind (arith, nat_tests) in
      replies_running m h (report x) done is (rw (there, none, seen) may)

  -- a point that must be fired may be fired
  pub due_fires : (some : plan_of h ≢ []) (x : ℕ) → MustFire (moment_of m h) x → Replies m h (fire x) done
  due_fires some x d =
      let f = run_fits m h run some in
      fire_done x d.below d.none d.free d.untied (record { s = f.s; fits = f.fits; here = d.forced.each f.s f.fits })

  -- a late bound's point may be reported
  late_reports : (some : plan_of h ≢ []) → LateBound (count_at h) (bounds_at m h) (executed h) (tick_at h) (watched m h) → (x : ℕ) × Replies m h (report x) done
  late_reports some l =
      let f = run_fits m h run some in
      let below = observed_below m (plan_of h) l.to l.watched in
      let step = l.tight.implied.holds f.s f.fits.meets in
      let from = f.fits.past l.from l.at_from l.set in
      let after = f.fits.future l.to below l.open_to in
      (l.to, report_done l.to below l.open_to l.watched (record { s = f.s; fits = f.fits; here = omega (arith, ints, step, from, after, l.late) }))

  reached : (some : plan_of h ≢ []) (k : HasNet m h) → IsReached (count_at h) k.net (executed h) (tick_at h)
  reached some k =
      let f = run_fits m h run some in
      let e = executed_in m h run in
      record { origin = refl; within = e.within; late = e.late; some = f.s; fits = (fits_both (count_at h) (bounds_at m h) k.net k.reduced (executed h) (tick_at h) f.s).0 f.fits }

  pub goes_on : plan_of h ≢ [] → GoesOn m h
  goes_on some =
      let k = net_of m h run some in
      let w : Moment = record { points = count_at h; bounds = spread k.net; at = executed h; tick = tick_at h; observed = watched m h } in
      let like : AreAlike w (moment_of m h) = record { points = refl; schedules = has_same (count_at h) (bounds_at m h) k.net k.reduced; at = refl; tick = refl; observed = refl } in
      record {
        done = elim (tick_or (count_at h) k.net (reduced_again (count_at h) (bounds_at m h) k.net k.reduced) (executed h) (tick_at h) (reached some k) (watched m h)) [
          | inl may ↦ inl (replies_running m h tick done is (same.may_go_on w (moment_of m h) like may))
          | inr r ↦ inr (elim r [
            | inl d ↦ inl (d.0, due_fires some d.0 (same.must_fire w (moment_of m h) like d.0 d.1))
            | inr l ↦ inr (late_reports some (same.is_late w (moment_of m h) like (bound l.from l.to l.most) (l, refl)).0)
          ])
        ];
      }

-- a due point may be fired
pub due_done : (m : Mission) (h : List Entry) → Run m h → (x : ℕ) → Replies m h tick (due x) → Replies m h (fire x) done
due_done m h run x lawful =
    let is = answered_running m h tick (due x) lawful refl (λ (e : due x ≡ over). cc) (λ (e : due x ≡ no_net). cc) in
    let r : EventReply m h tick (due x) = otherwise _ _ _ (otherwise _ _ _ lawful (λ (e : due x ≡ over). cc)) (λ (e : due x ≡ no_net). cc) in
    due_fires m h run is (running h is).some x r.1
