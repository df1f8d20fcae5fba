-- What an executive keeps tells its phase, and is kept by each entry.
use Rattle.std.proofs.Common.{◌≡◌, ℕ, ◌+◌, ◌-◌, ◌<◌, ◌≤◌, Bool, true, false, cond, List, [], ◌∷◌, ◌++◌, length, Option, Some, None, refl, sym, ap, ◌∙◌, subst, arith, is_some, add-zero}
use Rattle.std.proofs.lemmas.Int.{ints}
use Rattle.std.specs.Prelude.{ℤ, vec_capacity}
use Rattle.std.specs.Option.{is_none}
use Rattle.std.specs.List.{count_by}
use Rattle.hs_base.specs.declared.ids.PointId.{PointId}
use Rattle.hs_base.specs.declared.mission.Mission.{Mission}
use Rattle.hs_base.specs.declared.plan.Extension.{Extension}
use Rattle.hs_machine.specs.declared.history.Entry.{Entry}
use Rattle.hs_machine.specs.declared.history.Deed.TheVariants.{Tick}
use Rattle.hs_machine.specs.declared.history.Phase.{Phase}
use Rattle.hs_machine.specs.declared.history.Phase.TheVariants.{Waiting, Running, Failed, Ended}
use Rattle.hs_base.specs.Points.{hor}
use Rattle.hs_base.specs.Fits.{time_at}
use Rattle.hs_machine.specs.State.{now_of, plan_of, executed, moment_of, executes, hands_over, is_failure, has_failed, has_ended, phase_of}
use Rattle.hs_machine.specs.Machine.{tick, is_over}
use Rattle.hs_machine.specs.Run.{Run, MayAdd}
use Rattle.run_laws.proofs.StateLemmas.{plan_kept, times_kept, now_of-push}
use Rattle.dispatcher.specs.State.{State, time_in, fired, ticked}
use Rattle.exec_laws.specs.Follows.{Follows}
use Rattle.exec_laws.proofs.StepLemmas.{running, run_more, phase_failed, phase_waiting, phase_flying, failed_more, follows_idle, follows_tick, follows_point}
use Rattle.exec_laws.proofs.HorizonLemmas.{mark_below, before_horizon}
use Rattle.exec_core.specs.Room.{HasRoom}
use Rattle.exec_core.specs.Kept.{IsFlying, IsGrounded, IsAt, HasRoomFor, IsKept}
use Rattle.exec_core.specs.declared.flight.Flight.{Flight}
use Rattle.exec_core.specs.declared.exec.Exec.TheInside.{Inside}
use Rattle.exec_core.proofs.RoomLemmas.{count_set, room_on}
use Rattle.exec_laws.proofs.ReplyLemmas.{MayExecute, MayFail}

-- The phase by the fields.
module _ (d : Inside) (k : IsKept d) where
  pub flying : (f : Flight) → d.live ≡ Some f → IsFlying d.mission d.history.items f
  flying f is = subst (IsAt d.mission d.history.items) is k.at

  pub grounded : d.live ≡ None → IsGrounded d.history.items
  grounded is = subst (IsAt d.mission d.history.items) is k.at

  -- the horizon's point is one of the dispatch's
  pub mark_in : (f : Flight) → d.live ≡ Some f → f.mark.0 < length f.dispatch.times
  mark_in f is = let fl = flying f is in omega (arith, fl.mark, fl.follows.points, mark_below (plan_of d.history.items) fl.some)

  ended_is : (f : Flight) → d.live ≡ Some f → has_ended d.history.items ≡ is_some (time_in f.dispatch f.mark.0)
  ended_is f is = let fl = flying f is in sym (ap (λ (t : ℕ → Option ℤ). is_some (t f.mark.0)) fl.follows.times ∙ ap (λ x. is_some (executed d.history.items x)) fl.mark)

  pub phase_if_failed : d.failed ≡ true → phase_of d.history.items ≡ Failed
  phase_if_failed is = phase_failed d.history.items (sym k.failed ∙ is)

  pub phase_if_grounded : d.failed ≡ false → d.live ≡ None → phase_of d.history.items ≡ Waiting
  phase_if_grounded sound is = phase_waiting d.history.items (sym k.failed ∙ sound) (grounded is).plan

  pub phase_if_flying : (f : Flight) (ended : Bool) → d.failed ≡ false → d.live ≡ Some f → ended ≡ is_some (time_in f.dispatch f.mark.0) → phase_of d.history.items ≡ cond ended Ended Running
  phase_if_flying f ended sound is over = phase_flying d.history.items ended (sym k.failed ∙ sound) (flying f is).some (ended_is f is ∙ sym over)

-- a running state has a flight
pub no_ground : (d : Inside) → IsKept d → d.live ≡ None → phase_of d.history.items ≡ Running → ⊥
no_ground d k is run = (running d.history.items run).some (grounded d k is).plan

-- the flight of a longer history with the same plan
flying_on : (m : Mission) (h : List Entry) (f g : Flight) (e : Entry) → g.plan ≡ f.plan → g.mark ≡ f.mark → hands_over e.deed ≡ None → IsFlying m h f → Follows (moment_of m (h ++ e ∷ [])) g.dispatch → IsFlying m (h ++ e ∷ []) g
flying_on m h f g e same_plan same_mark none k follows =
    let p = plan_kept h e none in
    record {
      mission = ap (λ c. c.mission) same_plan ∙ k.mission;
      plan = ap (λ c. c.plan.extensions) same_plan ∙ k.plan ∙ sym p;
      some = λ (x : plan_of (h ++ e ∷ []) ≡ []). k.some (sym p ∙ x);
      follows = follows;
      mark = ap (λ (x : PointId). x.0) same_mark ∙ k.mark ∙ ap (λ (es : List Extension). hor es (length es)) (sym p);
    }

-- the fields after one more entry
pub record Grown (d d2 : Inside) (e : Entry) : Type 0 where
  pub mission : d2.mission ≡ d.mission
  pub items : d2.history.items ≡ d.history.items ++ e ∷ []
  pub room : vec_capacity d.history ≤ vec_capacity d2.history

pub grown : (d d2 : Inside) (e : Entry) → IsKept d → Grown d d2 e → MayAdd d.mission d.history.items e → d2.failed ≡ has_failed (d.history.items ++ e ∷ []) → IsAt d.mission (d.history.items ++ e ∷ []) d2.live → (d2.failed ≡ false → HasRoomFor d.mission (d.history.items ++ e ∷ []) d2.live (vec_capacity d2.history)) → IsKept d2
grown d d2 e k g adds fail at room = record {
  run = subst (λ m. Run m d2.history.items) (sym g.mission) (subst (Run d.mission) (sym g.items) (run_more d.mission d.history.items e k.run adds));
  failed = fail ∙ ap has_failed (sym g.items);
  at = subst (λ m. IsAt m d2.history.items d2.live) (sym g.mission) (subst (λ h. IsAt d.mission h d2.live) (sym g.items) at);
  room = λ s. subst (λ m. HasRoomFor m d2.history.items d2.live (vec_capacity d2.history)) (sym g.mission) (subst (λ h. HasRoomFor d.mission h d2.live (vec_capacity d2.history)) (sym g.items) (room s));
}

-- the flight that a step moves
pub record Moved (f g : Flight) (s : State) : Type 0 where
  pub plan : g.plan ≡ f.plan
  pub mark : g.mark ≡ f.mark
  pub dispatch : g.dispatch ≡ s

-- an entry that is no failure
pub still_sound : (h : List Entry) (e : Entry) (b : Bool) → b ≡ has_failed h → is_failure e.deed ≡ false → b ≡ has_failed (h ++ e ∷ [])
still_sound h e b is sound = is ∙ sym (failed_more h e ∙ ap (cond (has_failed h) true) sound ∙ by_case (has_failed h))
  where
    by_case : (c : Bool) → cond c true false ≡ c
    by_case true = refl
    by_case false = refl

module _ (d d2 : Inside) (k : IsKept d) (f g : Flight) (is : d.live ≡ Some f) (now : d2.live ≡ Some g) where
  -- a tick
  pub tick_kept : (by : ℕ) → Grown d d2 (record { by = by; deed = Tick }) → MayAdd d.mission d.history.items (record { by = by; deed = Tick }) → d2.failed ≡ d.failed → Moved f g (ticked f.dispatch) → IsKept d2
  tick_kept by grow adds same moved =
      let h = d.history.items in
      let e : Entry = record { by = by; deed = Tick } in
      let fl = flying d k f is in
      let follows : Follows (moment_of d.mission (h ++ e ∷ [])) g.dispatch = subst (Follows (moment_of d.mission (h ++ e ∷ []))) (sym moved.dispatch) (follows_tick d.mission h f.dispatch fl.follows e refl refl refl) in
      grown d d2 e k grow adds (still_sound h e d2.failed (same ∙ k.failed) refl)
      (subst (IsAt d.mission (h ++ e ∷ [])) (sym now) (flying_on d.mission h f g e moved.plan moved.mark refl fl follows))
      (λ sound.
      let room : HasRoom d.mission h f.dispatch (vec_capacity d.history) = subst (λ o. HasRoomFor d.mission h o (vec_capacity d.history)) is (k.room (sym same ∙ sound)) in
      let clock = ap (λ (s : State). s.tick) moved.dispatch in
      let size = ap (λ (s : State). count_by is_none s.times) moved.dispatch in
      subst (λ o. HasRoomFor d.mission (h ++ e ∷ []) o (vec_capacity d2.history)) (sym now) (room_on d.mission h e f.dispatch g.dispatch (vec_capacity d.history) (vec_capacity d2.history) (plan_kept h e refl) grow.room (omega (arith, ints, clock, size)) room))

  -- a point
  pub point_kept : (e : Entry) (x : PointId) → executes e.deed ≡ Some x → MayExecute d.mission d.history.items e.deed x.0 → Grown d d2 e → MayAdd d.mission d.history.items e → d2.failed ≡ d.failed → Moved f g (fired f.dispatch x.0) → IsKept d2
  point_kept e x ex may grow adds same moved =
      let h = d.history.items in
      let fl = flying d k f is in
      let below : x.0 < length f.dispatch.times = omega (arith, may.below, fl.follows.points) in
      let free : time_in f.dispatch x.0 ≡ None = ap (λ (t : ℕ → Option ℤ). t x.0) fl.follows.times ∙ may.none in
      let follows : Follows (moment_of d.mission (h ++ e ∷ [])) g.dispatch = subst (Follows (moment_of d.mission (h ++ e ∷ []))) (sym moved.dispatch) (follows_point d.mission h f.dispatch fl.follows e x may.no_plan ex may.no_tick below free) in
      grown d d2 e k grow adds (still_sound h e d2.failed (same ∙ k.failed) may.sound)
      (subst (IsAt d.mission (h ++ e ∷ [])) (sym now) (flying_on d.mission h f g e moved.plan moved.mark may.no_plan fl follows))
      (λ sound.
      let room : HasRoom d.mission h f.dispatch (vec_capacity d.history) = subst (λ o. HasRoomFor d.mission h o (vec_capacity d.history)) is (k.room (sym same ∙ sound)) in
      let clock = ap (λ (s : State). s.tick) moved.dispatch in
      let size = ap (λ (s : State). count_by is_none s.times) moved.dispatch in
      let less = count_set f.dispatch.times x.0 f.dispatch.tick below free in
      subst (λ o. HasRoomFor d.mission (h ++ e ∷ []) o (vec_capacity d2.history)) (sym now) (room_on d.mission h e f.dispatch g.dispatch (vec_capacity d.history) (vec_capacity d2.history) (plan_kept h e may.no_plan) grow.room (omega (arith, ints, clock, size, less)) room))

-- a failure
pub fail_kept : (d d2 : Inside) → IsKept d → (e : Entry) → is_failure e.deed ≡ true → MayFail d.mission d.history.items e.deed → Grown d d2 e → MayAdd d.mission d.history.items e → d2.failed ≡ true → d2.live ≡ d.live → IsKept d2
fail_kept d d2 k e fails may grow adds failed_now same =
    grown d d2 e k grow adds (failed_now ∙ sym (failed_more h e ∙ ap (cond (has_failed h) true) fails ∙ by_case (has_failed h)))
    (subst (IsAt d.mission (h ++ e ∷ [])) (sym same) (by_live d.live k.at))
    (λ (sound : d2.failed ≡ false). absurd (let c : true ≡ false = sym failed_now ∙ sound in cc))
  where
    h : List Entry
    h = d.history.items

    by_case : (c : Bool) → cond c true true ≡ true
    by_case true = refl
    by_case false = refl

    by_live : (o : Option Flight) → IsAt d.mission h o → IsAt d.mission (h ++ e ∷ []) o
    by_live None g = record {
      plan = plan_kept h e may.no_plan ∙ g.plan;
      now_is = now_of-push h e ∙ ap (λ b. now_of h + cond b 1 0) may.no_tick ∙ add-zero (now_of h) ∙ g.now_is;
      times = ap time_at (times_kept h e may.no_point) ∙ g.times;
    }
    by_live (Some f) fl = flying_on d.mission h f f e refl refl may.no_plan fl (follows_idle d.mission h f.dispatch fl.follows e may.no_plan may.no_point may.no_tick)

-- there is room for one more entry, unless the run is over
pub room_left : (d : Inside) → IsKept d → is_over (phase_of d.history.items) ≡ false → length d.history.items < vec_capacity d.history
room_left d k going = by_failed d.failed refl
  where
    h : List Entry
    h = d.history.items

    by_live : (o : Option Flight) → d.live ≡ o → d.failed ≡ false → HasRoomFor d.mission h o (vec_capacity d.history) → length h < vec_capacity d.history
    by_live None is sound room = room
    by_live (Some f) is sound room =
        let fl = flying d k f is in
        let open_ : has_ended h ≡ false = by_end (has_ended h) refl in
        omega (arith, ints, room.enough, room.is_until.tick, fl.follows.tick, before_horizon d.mission h room.is_until.horizon k.run fl.some open_ room.is_until.is)
      where
        by_end : (b : Bool) → has_ended h ≡ b → has_ended h ≡ false
        by_end false over = over
        by_end true over = absurd (let e : is_over Ended ≡ false = subst (λ (p : Phase). is_over p ≡ false) (phase_flying h true (sym k.failed ∙ sound) (flying d k f is).some over) going in cc)

    by_failed : (b : Bool) → d.failed ≡ b → length h < vec_capacity d.history
    by_failed true failed_ = absurd (let e : is_over Failed ≡ false = subst (λ (p : Phase). is_over p ≡ false) (phase_if_failed d k failed_) going in cc)
    by_failed false sound = by_live d.live refl sound (k.room sound)
