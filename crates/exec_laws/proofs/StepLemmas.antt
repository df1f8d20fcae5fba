-- What each entry does to a run, to its phase, and to the dispatch that follows it.
use Rattle.std.proofs.Common.{◌≡◌, ◌≢◌, ℕ, ◌+◌, ◌<◌, Bool, true, false, cond, nat_eq, not, List, [], ◌∷◌, ◌++◌, length, get_or, Option, Some, None, refl, sym, ap, ◌∙◌, subst, arith, append-nil, add-zero, inl, inr, pos, get_or-set_same, get_or-set_other}
use Rattle.std.proofs.lemmas.Bool.{cases_Bool, eqb-true, eqb-false}
use Rattle.std.proofs.lemmas.Int.{ints}
use Rattle.std.proofs.Math.Path.{fun_ext}
use Rattle.std.proofs.Math.ListN.{set, length-set}
use Rattle.std.specs.Prelude.{ℤ}
use Rattle.hs_base.specs.declared.ids.PointId.{PointId}
use Rattle.hs_base.specs.declared.mission.Mission.{Mission}
use Rattle.hs_base.specs.declared.plan.Extension.{Extension}
use Rattle.hs_machine.specs.declared.history.Entry.{Entry}
use Rattle.hs_machine.specs.declared.history.Deed.{Deed}
use Rattle.hs_machine.specs.declared.history.Phase.TheVariants.{Waiting, Running, Failed, Ended}
use Rattle.hs_base.specs.Points.{count, is_observed as ends_by_device}
use Rattle.hs_base.specs.Bounds.{bounds_of}
use Rattle.hs_base.specs.Reduced.{IsReducedOf}
use Rattle.hs_base.specs.Fits.{put, time_at}
use Rattle.hs_machine.specs.State.{now_of, plan_of, executed, tick_at, moment_of, is_tick, is_failure, executes, hands_over, has_failed, has_ended, is_empty, phase_of}
use Rattle.hs_machine.specs.Machine.{Event, Reply, Replies, EventReply, IsLeftBy, Turn, over, no_net, is_over, needs_net, leaves_deed}
use Rattle.hs_machine.specs.Run.{MayAdd, Run}
use Rattle.base_laws.proofs.ListLemmas.{EachAfter-more}
use Rattle.run_laws.proofs.StateLemmas.{times_kept, executed-put, now_of-push, plan_kept}
use Rattle.dispatcher.specs.State.{State, times_in, time_in, fired, ticked}
use Rattle.exec_laws.specs.Follows.{Follows}

-- a run with one more entry
pub run_more : (m : Mission) (h : List Entry) (e : Entry) → Run m h → MayAdd m h e → Run m (h ++ e ∷ [])
run_more m h e run adds = record { mission = run.mission; entries = EachAfter-more (MayAdd m) [] h e run.entries adds }

-- a reply that leaves no entry
pub turn_kept : (m : Mission) (h : List Entry) (by : ℕ) (event : Event) (reply : Reply) → Replies m h event reply → leaves_deed reply ≡ false → Turn m h by event reply h
turn_kept m h by event reply lawful none = record { added = None; answers = record { lawful = lawful; leaves = none }; after = sym (append-nil h) }

-- a reply that leaves one
pub turn_added : (m : Mission) (h : List Entry) (by : ℕ) (event : Event) (reply : Reply) (d : Deed) → Replies m h event reply → IsLeftBy m d event reply → Turn m h by event reply (h ++ record { by = by; deed = d } ∷ [])
turn_added m h by event reply d lawful left = record { added = Some (record { by = by; deed = d }); answers = record { lawful = lawful; leaves = (refl, left) }; after = refl }

pub may_add : (m : Mission) (h : List Entry) (by : ℕ) (event : Event) (reply : Reply) (d : Deed) → Replies m h event reply → IsLeftBy m d event reply → MayAdd m h (record { by = by; deed = d })
may_add m h by event reply d lawful left = record { event = event; reply = reply; answers = record { lawful = lawful; leaves = (refl, left) } }

-- the phase decides first
pub replies_over : (m : Mission) (h : List Entry) (event : Event) → is_over (phase_of h) ≡ true → Replies m h event over
replies_over m h event is = rw is refl

pub replies_no_net : (m : Mission) (h : List Entry) (event : Event) → phase_of h ≡ Waiting → needs_net event ≡ true → Replies m h event no_net
replies_no_net m h event is needs = rw (is, needs) refl

pub replies_running : (m : Mission) (h : List Entry) (event : Event) (reply : Reply) → phase_of h ≡ Running → EventReply m h event reply → Replies m h event reply
replies_running m h event reply is r = rw is r

pub replies_waiting : (m : Mission) (h : List Entry) (event : Event) (reply : Reply) → phase_of h ≡ Waiting → needs_net event ≡ false → EventReply m h event reply → Replies m h event reply
replies_waiting m h event reply is none r = rw (is, none) r

-- the phase by its parts
pub phase_failed : (h : List Entry) → has_failed h ≡ true → phase_of h ≡ Failed
phase_failed h failed = rw failed refl

pub phase_waiting : (h : List Entry) → has_failed h ≡ false → plan_of h ≡ [] → phase_of h ≡ Waiting
phase_waiting h sound none = rw (sound, none) refl

pub phase_flying : (h : List Entry) (ended : Bool) → has_failed h ≡ false → plan_of h ≢ [] → has_ended h ≡ ended → phase_of h ≡ cond ended Ended Running
phase_flying h ended sound some is = rw (sound, is) (by_plan (plan_of h) some)
  where
    by_plan : (es : List Extension) → es ≢ [] → cond (is_empty es) Waiting (cond ended Ended Running) ≡ cond ended Ended Running
    by_plan [] some = absurd (some refl)
    by_plan (e ∷ es) some = refl

-- a running state has a plan, has not failed, and its horizon's point is open
pub record IsRunning (h : List Entry) : Type 0 where
  pub sound : has_failed h ≡ false
  pub some : plan_of h ≢ []
  pub open_mark : has_ended h ≡ false

pub running : (h : List Entry) → phase_of h ≡ Running → IsRunning h
running h is = by_parts (has_failed h) refl (plan_of h) refl (has_ended h) refl is
  where
    by_parts : (b : Bool) → has_failed h ≡ b → (es : List Extension) → plan_of h ≡ es → (c : Bool) → has_ended h ≡ c → phase_of h ≡ Running → IsRunning h
    by_parts true fail es plan c at_end is = absurd (let e : Failed ≡ Running = sym (phase_failed h fail) ∙ is in cc)
    by_parts false fail [] plan c at_end is = absurd (let e : Waiting ≡ Running = sym (phase_waiting h fail plan) ∙ is in cc)
    by_parts false fail (x ∷ es) plan true at_end is = absurd (let e : Ended ≡ Running = sym (phase_flying h true fail (λ (e : plan_of h ≡ []). let f : x ∷ es ≡ [] = sym plan ∙ e in cc) at_end) ∙ is in cc)
    by_parts false fail (x ∷ es) plan false at_end is = record { sound = fail; some = λ (e : plan_of h ≡ []). let f : x ∷ es ≡ [] = sym plan ∙ e in cc; open_mark = at_end }

-- an entry and the failures
pub failed_more : (h : List Entry) (e : Entry) → has_failed (h ++ e ∷ []) ≡ cond (has_failed h) true (is_failure e.deed)
failed_more [] e = elim (cases_Bool (is_failure e.deed)) [ inl yes_ ↦ rw yes_ refl | inr no_ ↦ rw no_ refl ]
failed_more (d ∷ h) e = elim (cases_Bool (is_failure d.deed)) [ inl yes_ ↦ rw yes_ refl | inr no_ ↦ rw no_ (failed_more h e) ]

module _ (m : Mission) (h : List Entry) (s : State) (f : Follows (moment_of m h) s) where
  -- another state and a longer history with the same plan
  follows_on : (g : List Entry) (t : State) → plan_of g ≡ plan_of h → t.net ≡ s.net → t.observed ≡ s.observed → length t.times ≡ length s.times → ((x : ℕ) → time_in t x ≡ executed g x) → t.tick ≡ tick_at g → Follows (moment_of m g) t
  follows_on g t plan net seen size times tick = record {
    reduced = subst (λ z. IsReducedOf (count (plan_of g)) (bounds_of m (plan_of g)) z) (sym net) (subst (λ (es : List Extension). IsReducedOf (count es) (bounds_of m es) s.net) (sym plan) f.reduced);
    points = size ∙ f.points ∙ ap count (sym plan);
    times = fun_ext times;
    observed = fun_ext (λ x. ap (λ o. get_or o x false) seen ∙ ap (λ (o : ℕ → Bool). o x) f.observed ∙ ap (λ (es : List Extension). ends_by_device m es x) (sym plan));
    tick = tick;
  }

  -- an entry that neither hands over, executes nor ticks
  pub follows_idle : (e : Entry) → hands_over e.deed ≡ None → executes e.deed ≡ None → is_tick e.deed ≡ false → Follows (moment_of m (h ++ e ∷ [])) s
  follows_idle e no_plan no_time no_tick =
      follows_on (h ++ e ∷ []) s (plan_kept h e no_plan) refl refl refl
      (λ x. ap (λ (t : ℕ → Option ℤ). t x) f.times ∙ sym (ap (λ ts. time_at ts x) (times_kept h e no_time)))
      (f.tick ∙ ap pos (sym (now_of-push h e ∙ ap (λ b. now_of h + cond b 1 0) no_tick ∙ add-zero (now_of h))))

  -- a tick
  pub follows_tick : (e : Entry) → hands_over e.deed ≡ None → executes e.deed ≡ None → is_tick e.deed ≡ true → Follows (moment_of m (h ++ e ∷ [])) (ticked s)
  follows_tick e no_plan no_time ticks =
      let counted : now_of (h ++ e ∷ []) ≡ now_of h + 1 = now_of-push h e ∙ ap (λ b. now_of h + cond b 1 0) ticks in
      follows_on (h ++ e ∷ []) (ticked s) (plan_kept h e no_plan) refl refl refl
      (λ x. ap (λ (t : ℕ → Option ℤ). t x) f.times ∙ sym (ap (λ ts. time_at ts x) (times_kept h e no_time)))
      (omega (arith, ints, f.tick, counted))

  put_time : (x : ℕ) (t : ℤ) (y : ℕ) → x < length s.times → times_in (set s.times x (Some t)) y ≡ put (time_in s) x t y
  put_time x t y below = elim (cases_Bool (nat_eq y x)) [
    | inl same ↦ rw same (subst (λ (z : ℕ). times_in (set s.times x (Some t)) z ≡ Some t) (sym (eqb-true y x same)) (get_or-set_same s.times x (Some t) None below))
    | inr other ↦ rw other (get_or-set_other s.times x y (Some t) None (λ (e : y ≡ x). eqb-false y x other e))
  ]

  -- a point that is executed now
  pub follows_point : (e : Entry) (x : PointId) → hands_over e.deed ≡ None → executes e.deed ≡ Some x → is_tick e.deed ≡ false → x.0 < length s.times → time_in s x.0 ≡ None → Follows (moment_of m (h ++ e ∷ [])) (fired s x.0)
  follows_point e x no_plan is no_tick below open_ =
      let free : executed h x.0 ≡ None = ap (λ (t : ℕ → Option ℤ). t x.0) (sym f.times) ∙ open_ in
      follows_on (h ++ e ∷ []) (fired s x.0) (plan_kept h e no_plan) refl refl (length-set s.times x.0 (Some s.tick))
      (λ y. put_time x.0 s.tick y below ∙ ap (λ (t : ℕ → Option ℤ). put t x.0 s.tick y) f.times ∙ ap (λ n. put (executed h) x.0 n y) f.tick ∙ sym (executed-put h e x y is free))
      (f.tick ∙ ap pos (sym (now_of-push h e ∙ ap (λ b. now_of h + cond b 1 0) no_tick ∙ add-zero (now_of h))))
