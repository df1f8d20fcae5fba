-- What firing points at a tick does to a run and its devices.
use Rattle.std.proofs.Common.{◌≡◌, ◌≢◌, ℕ, ◌+◌, ◌<◌, Bool, true, false, cond, List, [], ◌∷◌, length, map, get_or, Option, Some, None, refl, sym, ap, ◌∙◌, subst, arith, inl, inr}
use Rattle.std.proofs.lemmas.Option.{slice_get_within, slice_get-get_or}
use Rattle.std.specs.List.{AllByRecursion}
use Rattle.base_laws.proofs.ListLemmas.{each_at}
use Rattle.plan_check.proofs.NeedLemmas.{slice_get-mapped}
use Rattle.device_script.specs.Runs.{Stage}
use Rattle.hs_base.specs.declared.ids.PointId.{PointId}
use Rattle.hs_base.specs.declared.mission.Mission.{Mission}
use Rattle.hs_machine.specs.declared.history.Deed.TheVariants.{Broken, Fire}
use Rattle.hs_machine.specs.declared.history.Entry.{Entry}
use Rattle.hs_machine.specs.declared.history.Phase.TheVariants.{Running}
use Rattle.hs_machine.specs.Machine.{Replies, done, fire, is_over}
use Rattle.hs_machine.specs.State.{has_ended, has_failed, now_of, phase_of, plan_of}
use Rattle.hs_machine.specs.Eager.{NoneMayFire}
use Rattle.hs_machine.specs.Views.{line_of}
use Rattle.run_laws.proofs.StateLemmas.{plan_kept}
use Rattle.exec_laws.proofs.StepLemmas.{IsRunning, failed_more, phase_flying, running}
use Rattle.flight_laws.proofs.MeasureLemmas.{fire_fewer}
use Rattle.exec_core.specs.Recorded.{Recorded, recording}
use Rattle.simulation_laws.specs.Ending.{EndsWith}
use Rattle.simulation_laws.specs.Standing.{HasJustBegun, Stands, StandsAnew, StandsOn, resting}
use Rattle.simulation_laws.proofs.NextLemmas.{none_next}
use Rattle.simulation_laws.proofs.StandLemmas.{stands_fired}
use Rattle.sim_run.specs.Told.{Known}
use Rattle.sim_run.specs.Manned.{IsManned, IsRunAt, rests}
use Rattle.sim_run.specs.Moves.{GoesFurther, GoesOn, IsGoing, IsOver, IsRun}
use Rattle.sim_run.specs.Parts.{IsCrewed, IsFired, IsReady, IsRefused}
use Rattle.sim_run.specs.Watches.{IsBehind, IsFirst, watched_points}
use Rattle.sim_run.specs.declared.settling.Tried.{Tried}
use Rattle.sim_run.specs.declared.settling.Tried.TheVariants.{Fired, Over, Refused}
use Rattle.sim_run.specs.declared.post.Post.{Post}
use Rattle.sim_run.specs.declared.watch.Watch.{Watch}
use Rattle.sim_run.proofs.CrewLemmas.{rests_anew, run_weaker, served_now}
use Rattle.sim_run.proofs.MoveLemmas.{ends_once, ends_so, goes, goes_then, one, run_on, same_now, stays, then_further}

-- a device after a fire
module _ (m : Mission) (h h2 : List Entry) (d n : ℕ) (was is : Known) (post : Post) (x : IsManned rests m h d n was is post) where
  -- it goes on as it stood
  fired_on : Stands m h2 d x.polls n x.standing → IsManned (HasJustBegun n) m h2 d n was is post
  fired_on on = record { polls = x.polls; told = x.told; standing = x.standing; stands = on; run = run_weaker rests (HasJustBegun n) (rests_anew n) post.end post.script x.standing x.run }

  -- or it rested, and stands anew
  fired_anew : x.standing ≡ resting → StandsAnew m h2 d x.polls n → IsManned (HasJustBegun n) m h2 d n was is post
  fired_anew rested anew = record { polls = x.polls; told = x.told; standing = anew.0; stands = anew.1; run = by_script post.script (subst (IsRunAt rests post.end post.script) rested x.run) }
    where
      by_script : (o : Option Stage) → IsRunAt rests post.end o resting → IsRunAt (HasJustBegun n) post.end o anew.0
      by_script None r = anew.2
      by_script (Some stage) r = absurd r

  manned_fired : StandsOn m h2 d x.polls n x.standing → IsManned (HasJustBegun n) m h2 d n was is post
  manned_fired (inl on) = fired_on on
  manned_fired (inr rested) = fired_anew rested.0 rested.1

-- a fire that was Done
module _ (point : PointId) (old new : Recorded) (going : IsGoing old) (f : IsFired point old new) where
  after : IsRun (recording old 0 (Fire point))
  after = run_on old (Fire point) (fire point.0) done going.is_run f.lawful (refl, refl) refl

  pub fired_run : IsRun new
  fired_run = subst IsRun (sym f.is) after

  pub fired_further : GoesFurther old new
  fired_further =
      let fewer = fire_fewer old.mission old.history 0 point f.lawful in
      subst (GoesFurther old) (sym f.is) (record { goes_on = goes old (Fire point) refl (omega (arith, fewer)); fewer = fewer })

  fired_ends : EndsWith new.history (Fire point)
  fired_ends = subst (λ (r : Recorded). EndsWith r.history (Fire point)) (sym f.is) (ends_so old (Fire point))

  fired_now : now_of new.history ≡ now_of old.history
  fired_now = ap (λ (r : Recorded). now_of r.history) f.is ∙ same_now old (Fire point) refl

  fired_device : (d : ℕ) (was is : Known) (post : Post) → IsManned rests old.mission old.history d (now_of old.history) was is post → IsManned (HasJustBegun (now_of old.history)) old.mission new.history d (now_of old.history) was is post
  fired_device d was is post x =
      subst (λ (r : Recorded). IsManned (HasJustBegun (now_of old.history)) old.mission r.history d (now_of old.history) was is post) (sym f.is)
      (manned_fired old.mission old.history (one old (Fire point)) d (now_of old.history) was is post x (stands_fired old.mission old.history 0 point going.is_run.run f.lawful d x.polls x.standing x.stands))

  module _ (before now : List Known) (posts : List Post) (crewed : IsCrewed rests old before now posts) where
    -- the run goes on
    pub fired_crewed : phase_of new.history ≡ Running → IsCrewed (HasJustBegun (now_of new.history)) new before now posts
    fired_crewed running = record {
      going = record { is_run = fired_run; running = running };
      posts_are = crewed.posts_are ∙ ap (λ (m : Mission). length m.vars) (sym fired_further.goes_on.mission);
      now_are = crewed.now_are;
      before_are = crewed.before_are;
      manned = λ d was is post low high was_at is_at post_at.
          subst (λ (n : ℕ). IsManned (HasJustBegun n) new.mission new.history d n was is post) (sym fired_now)
          (subst (λ (m : Mission). IsManned (HasJustBegun (now_of old.history)) m new.history d (now_of old.history) was is post) (sym fired_further.goes_on.mission) (fired_device d was is post (crewed.manned d was is post low high was_at is_at post_at)));
    }

    -- or it has ended
    pub fired_over : (phase_of new.history ≢ Running) → IsOver before now new
    fired_over stopped = record {
      is_run = fired_run;
      over = ended;
      served = λ d was is was_at is_at.
          let p_at = slice_get-get_or posts d none (omega (arith, slice_get_within now d is is_at, crewed.now_are)) in
          served_now (HasJustBegun (now_of old.history)) new.mission new.history d (now_of old.history) was is (get_or posts d none) (sym fired_now)
          (subst (λ (m : Mission). IsManned (HasJustBegun (now_of old.history)) m new.history d (now_of old.history) was is (get_or posts d none)) (sym fired_further.goes_on.mission) (fired_device d was is (get_or posts d none) (crewed.manned d was is (get_or posts d none) (omega arith) (omega (arith, slice_get_within now d is is_at, crewed.now_are)) was_at is_at p_at)));
      broken = λ v ends. absurd (let e : Fire point ≡ Broken v = ends_once new.history (Fire point) (Broken v) fired_ends ends in cc);
    }
      where
        none : Post
        none = record { end = point; script = None }

        was : IsRunning old.history
        was = running old.history going.running

        e : Entry
        e = record { by = 0; deed = Fire point }

        h2 : List Entry
        h2 = one old (Fire point)

        not_failed : has_failed (one old (Fire point)) ≡ false
        not_failed = failed_more old.history (record { by = 0; deed = Fire point }) ∙ ap (λ b. cond b true false) was.sound

        some : plan_of (one old (Fire point)) ≢ []
        some gone = was.some (sym (plan_kept old.history (record { by = 0; deed = Fire point }) refl) ∙ gone)

        history : new.history ≡ one old (Fire point)
        history = ap (λ (r : Recorded). r.history) f.is

        by_end : (b : Bool) → has_ended (one old (Fire point)) ≡ b → is_over (phase_of new.history) ≡ true
        by_end true is = ap (λ (l : List Entry). is_over (phase_of l)) history ∙ ap is_over (phase_flying (one old (Fire point)) true not_failed some is)
        by_end false is = absurd (stopped (ap phase_of history ∙ phase_flying (one old (Fire point)) false not_failed some is))

        ended : is_over (phase_of new.history) ≡ true
        ended = by_end (has_ended (one old (Fire point))) refl

-- where none of the points that are watched may be fired, no point may be
pub none_watched : (r : Recorded) (before now : List Known) (w : Watch) → IsReady r before now w → AllByRecursion (λ x. Replies r.mission r.history (fire x) done → ⊥) (watched_points w) → NoneMayFire r.mission r.history
none_watched r before now w ready refused = none_next r.mission r.history ready.crewed.going.is_run.run ends marks
  where
    ends : (v : ℕ) → v < length r.mission.vars → Replies r.mission r.history (fire (line_of r.mission r.history v).end) done → ⊥
    ends v there lawful =
        let below : v < length w.posts.items = omega (arith, there, ready.crewed.posts_are) in
        let at = slice_get-get_or w.posts.items v (record { end = w.mark; script = None }) below in
        let same = ready.watches.0 v (get_or w.posts.items v (record { end = w.mark; script = None })) (omega arith) below at in
        each_at (λ x. Replies r.mission r.history (fire x) done → ⊥) (map (λ (p : Post). p.end.0) w.posts.items) v _ refused.1 (slice_get-mapped (λ (p : Post). p.end.0) w.posts.items v (get_or w.posts.items v (record { end = w.mark; script = None })) at)
        (subst (λ (x : ℕ). Replies r.mission r.history (fire x) done) (sym same) lawful)

    marks : (v : ℕ) → v < length r.mission.vars → Replies r.mission r.history (fire (line_of r.mission r.history v).mark) done → ⊥
    marks v there lawful = refused.0 (subst (λ (x : ℕ). Replies r.mission r.history (fire x) done) (sym ready.watches.1) lawful)

-- the points of a pass, of which those below `from` were tried
pub record IsTrying (tried : Tried) (from : ℕ) (first r : Recorded) (before now : List Known) (w : Watch) : Type 0 where
  pub ready : IsReady r before now w
  pub goes_on : GoesOn first r
  pub still : tried ≡ Refused → (r ≡ first) × AllByRecursion (λ x. x < from → Replies r.mission r.history (fire x) done → ⊥) (watched_points w)
  pub fired : tried ≡ Fired → GoesFurther first r
  pub not_over : tried ≢ Over

pub trying_begins : (r : Recorded) (before now : List Known) (w : Watch) → IsReady r before now w → IsTrying Refused 0 r r before now w
trying_begins r before now w ready = record {
  ready = ready;
  goes_on = stays r;
  still = λ q. (refl, each (watched_points w));
  fired = λ (e : Refused ≡ Fired). absurd (cc);
  not_over = λ (e : Refused ≡ Over). cc;
}
  where
    each : (xs : List ℕ) → AllByRecursion (λ x. x < 0 → Replies r.mission r.history (fire x) done → ⊥) xs
    each [] = tt
    each (x ∷ xs) = (λ low. absurd (omega (arith, low)), each xs)

module _ (tried : Tried) (from : ℕ) (first r : Recorded) (before now : List Known) (w : Watch) (x : IsTrying tried from first r before now w) where
  -- none is left
  pub trying_done : IsFirst from (watched_points w) None → tried ≡ Refused → (r ≡ first) × NoneMayFire r.mission r.history × IsReady r before now w
  trying_done none is = ((x.still is).0, none_watched r before now w x.ready (each (watched_points w) none.behind (x.still is).1), x.ready)
    where
      each : (xs : List ℕ) → AllByRecursion (IsBehind from None) xs → AllByRecursion (λ y. y < from → Replies r.mission r.history (fire y) done → ⊥) xs → AllByRecursion (λ y. Replies r.mission r.history (fire y) done → ⊥) xs
      each [] low refused = tt
      each (y ∷ ys) low refused = (refused.0 low.0, each ys low.1 refused.1)

  module _ (point : PointId) (next : IsFirst from (watched_points w) (Some point)) where
    -- the next one may not be fired
    pub trying_refused : (r2 : Recorded) (now2 : List Known) (w2 : Watch) → IsRefused point r r2 w w2 now now2 → IsTrying tried (point.0 + 1) first r2 before now2 w2
    trying_refused r2 now2 w2 no_fire =
        subst (λ (k : List Known). IsTrying tried (point.0 + 1) first r2 before k w2) (sym no_fire.known_is)
        (subst (λ (v : Watch). IsTrying tried (point.0 + 1) first r2 before now v) (sym no_fire.watch_is)
        (subst (λ (s : Recorded). IsTrying tried (point.0 + 1) first s before now w) (sym no_fire.same) (record {
          ready = x.ready;
          goes_on = x.goes_on;
          still = λ is. ((x.still is).0, each (watched_points w) next.behind (x.still is).1);
          fired = x.fired;
          not_over = x.not_over;
        })))
      where
        each : (xs : List ℕ) → AllByRecursion (IsBehind from (Some point)) xs → AllByRecursion (λ y. y < from → Replies r.mission r.history (fire y) done → ⊥) xs → AllByRecursion (λ y. y < point.0 + 1 → Replies r.mission r.history (fire y) done → ⊥) xs
        each [] behind refused = tt
        each (y ∷ ys) (inl low, behind) refused = (λ _. refused.0 low, each ys behind refused.1)
        each (y ∷ ys) (inr high, behind) refused =
            (λ low. let same : y ≡ point.0 = omega (arith, high, low) in subst (λ (z : ℕ). Replies r.mission r.history (fire z) done → ⊥) (sym same) no_fire.unlawful, each ys behind refused.1)

    -- it was fired
    pub trying_fired : (r2 : Recorded) (now2 : List Known) (w2 : Watch) → GoesFurther r r2 → IsReady r2 before now2 w2 → IsTrying Fired (point.0 + 1) first r2 before now2 w2
    trying_fired r2 now2 w2 further ready = record {
      ready = ready;
      goes_on = goes_then first r r2 x.goes_on further.goes_on;
      still = λ (e : Fired ≡ Refused). absurd (cc);
      fired = λ is. then_further first r r2 x.goes_on further;
      not_over = λ (e : Fired ≡ Over). cc;
    }
