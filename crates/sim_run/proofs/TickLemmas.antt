-- What a tick does to a run, its devices and what it watches.
use Rattle.std.proofs.Common.{◌≡◌, ℕ, ◌+◌, ◌-◌, ◌<◌, List, [], ◌∷◌, ◌++◌, length, get_or, None, refl, sym, ap, ◌∙◌, subst, arith}
use Rattle.std.proofs.lemmas.Option.{slice_get_within, slice_get-get_or}
use Rattle.hs_base.specs.declared.mission.Mission.{Mission}
use Rattle.hs_base.specs.declared.plan.Extension.{Extension}
use Rattle.hs_base.specs.declared.plan.Time.{Time}
use Rattle.hs_base.specs.Fits.{time_at}
use Rattle.hs_base.specs.Points.{ending, place_of, points_of}
use Rattle.hs_machine.specs.declared.history.Deed.TheVariants.{Broken, Late, Tick}
use Rattle.hs_machine.specs.declared.history.Entry.{Entry}
use Rattle.hs_machine.specs.Machine.{failed, tick}
use Rattle.hs_machine.specs.State.{executes, hands_over, now_of, plan_of, times_of}
use Rattle.hs_machine.specs.Views.{ends_of, first_waiting, line_of, marks_of}
use Rattle.run_laws.proofs.StateLemmas.{now_of-push, plan_kept, times_kept}
use Rattle.exec_core.specs.Recorded.{Recorded}
use Rattle.simulation_laws.proofs.StandLemmas.{stands_idle}
use Rattle.sim_run.specs.Told.{Known}
use Rattle.sim_run.specs.Manned.{IsManned, rests}
use Rattle.sim_run.specs.Moves.{GoesOn, IsOver}
use Rattle.sim_run.specs.Parts.{HasTicked, IsLate, IsReady, IsTicked, Watches}
use Rattle.sim_run.specs.declared.post.Post.{Post}
use Rattle.sim_run.specs.declared.watch.Watch.{Watch}
use Rattle.sim_run.proofs.CrewLemmas.{served_now, stands_on}
use Rattle.sim_run.proofs.MoveLemmas.{ends_once, ends_so, fails, goes, one, run_on, same_left, same_now}

-- the end and the mark that a line shows are those of the plan and the executed times
end_by : List Extension → List Time → ℕ → ℕ
end_by es ts v = place_of (ending v (first_waiting (time_at ts) (ends_of es v))) (points_of es)

mark_by : List Extension → List Time → ℕ
mark_by es ts = get_or (marks_of es) (first_waiting (time_at ts) (marks_of es)) 0

-- so an entry that hands nothing over and executes nothing leaves what is watched
module _ (m : Mission) (h : List Entry) (e : Entry) (no_plan : hands_over e.deed ≡ None) (no_point : executes e.deed ≡ None) where
  pub end_kept : (v : ℕ) → (line_of m (h ++ e ∷ []) v).end ≡ (line_of m h v).end
  unfolding end_by
  end_kept v =
      let left : end_by (plan_of (h ++ e ∷ [])) (times_of (h ++ e ∷ [])) v ≡ end_by (plan_of h) (times_of h) v = ap (λ (es : List Extension). end_by es (times_of (h ++ e ∷ [])) v) (plan_kept h e no_plan) ∙ ap (λ (ts : List Time). end_by (plan_of h) ts v) (times_kept h e no_point) in
      left

  pub mark_kept : (v : ℕ) → (line_of m (h ++ e ∷ []) v).mark ≡ (line_of m h v).mark
  unfolding mark_by
  mark_kept v =
      let left : mark_by (plan_of (h ++ e ∷ [])) (times_of (h ++ e ∷ [])) ≡ mark_by (plan_of h) (times_of h) = ap (λ (es : List Extension). mark_by es (times_of (h ++ e ∷ []))) (plan_kept h e no_plan) ∙ ap (λ (ts : List Time). mark_by (plan_of h) ts) (times_kept h e no_point) in
      left

-- a tick that went by
module _ (old new : Recorded) (before now : List Known) (w : Watch) (ready : IsReady old before now w) (t : HasTicked old new) where
  e : Entry
  e = record { by = 0; deed = Tick }

  history : new.history ≡ one old Tick
  history = ap (λ (r : Recorded). r.history) t.is

  mission : new.mission ≡ old.mission
  mission = t.goes_further.goes_on.mission

  later : now_of new.history ≡ now_of old.history + 1
  later = ap now_of history ∙ now_of-push old.history (record { by = 0; deed = Tick })

  pub has_come : IsTicked new before now w
  has_come = record {
    going = t.going;
    tick = omega (arith, later);
    posts_are = ready.crewed.posts_are ∙ ap (λ (m : Mission). length m.vars) (sym mission);
    now_are = ready.crewed.now_are;
    before_are = ready.crewed.before_are;
    manned = λ d was is post low high was_at is_at post_at.
        let k_is : now_of old.history ≡ now_of new.history - 1 = omega (arith, later) in
        subst (λ (k : ℕ). IsManned rests new.mission new.history d k was is post) k_is
        (subst (λ (m : Mission). IsManned rests m new.history d (now_of old.history) was is post) (sym mission)
        (subst (λ (h : List Entry). IsManned rests old.mission h d (now_of old.history) was is post) (sym history)
        (stands_on rests rests (λ st r. r) old.mission old.history (one old Tick) d (now_of old.history) was is post
        (λ polls st. stands_idle old.mission old.history (record { by = 0; deed = Tick }) d polls (now_of old.history) st refl refl refl)
        (ready.crewed.manned d was is post low high was_at is_at post_at))));
    watches = subst (λ (m : Mission). Watches m new.history w) (sym mission) (subst (λ (h : List Entry). Watches old.mission h w) (sym history)
        ((λ d post low high at. ready.watches.0 d post low high at ∙ sym (end_kept old.mission old.history (record { by = 0; deed = Tick }) refl refl d)), ready.watches.1 ∙ sym (mark_kept old.mission old.history (record { by = 0; deed = Tick }) refl refl 0)));
  }

-- a report that is late
module _ (old new : Recorded) (before now : List Known) (w : Watch) (ready : IsReady old before now w) (t : IsLate old new) where
  pub late_on : GoesOn old new
  late_on = subst (GoesOn old) (sym t.is) (goes old (Late t.bound) refl (same_left old (Late t.bound) refl refl refl))

  pub late_over : IsOver before now new
  late_over = subst (IsOver before now) (sym t.is) (record {
    is_run = run_on old (Late t.bound) tick (failed t.bound) ready.crewed.going.is_run t.lawful (refl, refl) refl;
    over = fails old (Late t.bound) refl;
    served = λ d was is was_at is_at.
        let none : Post = record { end = w.mark; script = None } in
        let inside : d < length w.posts.items = omega (arith, slice_get_within now d is is_at, ready.crewed.now_are) in
        let p_at = slice_get-get_or w.posts.items d none inside in
        served_now rests old.mission (one old (Late t.bound)) d (now_of old.history) was is (get_or w.posts.items d none) (sym (same_now old (Late t.bound) refl))
        (stands_on rests rests (λ st r. r) old.mission old.history (one old (Late t.bound)) d (now_of old.history) was is (get_or w.posts.items d none)
        (λ polls st. stands_idle old.mission old.history (record { by = 0; deed = Late t.bound }) d polls (now_of old.history) st refl refl refl)
        (ready.crewed.manned d was is (get_or w.posts.items d none) (omega arith) inside was_at is_at p_at));
    broken = λ v ends. absurd (let e : Late t.bound ≡ Broken v = ends_once (one old (Late t.bound)) (Late t.bound) (Broken v) (ends_so old (Late t.bound)) ends in cc);
  })
