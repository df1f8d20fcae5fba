-- What an entry does to a run.
use Rattle.std.proofs.Common.{◌≡◌, ◌≢◌, ◌⊎◌, ℕ, ◌+◌, ◌-◌, ◌≤◌, Bool, true, false, cond, List, [], ◌∷◌, ◌++◌, append-nil, append_assoc, length, None, refl, sym, ap, ◌∙◌, subst, arith, inl, inr}
use Rattle.std.specs.Prelude.{filter}
use Rattle.std.specs.Bool.{OnFalse, OnTrue}
use Rattle.std.specs.Option.{is_none}
use Rattle.hs_base.specs.declared.ids.PointId.{PointId}
use Rattle.hs_base.specs.declared.net.Bound.{Bound}
use Rattle.hs_base.specs.declared.plan.Extension.{Extension}
use Rattle.hs_base.specs.declared.plan.Time.{Time}
use Rattle.hs_base.specs.Fits.{time_at}
use Rattle.hs_base.specs.Points.{count}
use Rattle.hs_base.specs.Schedule.{numbers_from}
use Rattle.base_laws.proofs.ListLemmas.{each_both}
use Rattle.hs_machine.specs.declared.history.Deed.{Deed}
use Rattle.hs_machine.specs.declared.history.Deed.TheVariants.{Tick, Fire}
use Rattle.hs_machine.specs.declared.history.Entry.{Entry}
use Rattle.hs_machine.specs.declared.history.Phase.TheVariants.{Running}
use Rattle.hs_machine.specs.Eager.{NoneMayFire}
use Rattle.hs_machine.specs.Machine.{Event, Reply, Replies, IsLeftBy, Turn, done, failed, is_over, report, tick}
use Rattle.hs_machine.specs.Run.{Run}
use Rattle.hs_machine.specs.State.{executed, executes, has_ended, has_failed, hands_over, is_failure, is_tick, now_of, phase_of, plan_of}
use Rattle.run_laws.proofs.StateLemmas.{now_of-push, plan_kept, times_kept}
use Rattle.exec_laws.proofs.StepLemmas.{IsRunning, failed_more, may_add, phase_failed, phase_flying, run_more, running}
use Rattle.flight_laws.specs.Flights.{open_points, steps_left}
use Rattle.flight_laws.proofs.MeasureLemmas.{tick_fewer}
use Rattle.exec_core.specs.Recorded.{Recorded, recording}
use Rattle.exec_core.specs.Replies.{reply_of}
use Rattle.exec_core.specs.declared.reply.Reply.{Reply as ExecReply}
use Rattle.exec_core.specs.declared.reply.Reply.TheVariants.{Done}
use Rattle.simulation_laws.specs.Ending.{EndsWith}
use Rattle.simulation_laws.specs.Planned.{offered}
use Rattle.simulation_laws.proofs.EndLemmas.{fires_last}
use Rattle.simulation_laws.proofs.GoLemmas.{eager_other, eager_settled, tick_answered}
use Rattle.simulation_laws.proofs.ReportLemmas.{open_reported}
use Rattle.sim_run.specs.Moves.{GoesFurther, GoesOn, IsGoing, IsRun}
use Rattle.sim_run.specs.Parts.{ComesEarly, HasTicked, IsAwaited, IsLate}
use Rattle.sim_run.proofs.TurnedLemmas.{done_only, early_is, late_is}

-- what holds where a test says so, and what follows from it
pub on_true : (b : Bool) (P Q : Type 0) → (P → Q) → OnTrue b P → OnTrue b Q
on_true true P Q f p = f p
on_true false P Q f p = tt

pub on_false : (b : Bool) (P Q : Type 0) → (P → Q) → OnFalse b P → OnFalse b Q
on_false true P Q f p = tt
on_false false P Q f p = f p

-- nothing is done
pub stays : (r : Recorded) → GoesOn r r
stays r = record { mission = refl; more = []; is = sym (append-nil r.history); no_plan = tt; left = omega arith }

-- a part and another one after it
pub goes_then : (a b c : Recorded) → GoesOn a b → GoesOn b c → GoesOn a c
goes_then a b c f g = record {
  mission = g.mission ∙ f.mission;
  more = f.more ++ g.more;
  is = g.is ∙ ap (λ h. h ++ g.more) f.is ∙ append_assoc a.history f.more g.more;
  no_plan = each_both (λ (e : Entry). offered e.deed ≡ None) f.more g.more f.no_plan g.no_plan;
  left = omega (arith, f.left, g.left);
}

pub then_further : (a b c : Recorded) → GoesOn a b → GoesFurther b c → GoesFurther a c
then_further a b c f g = record { goes_on = goes_then a b c f g.goes_on; fewer = omega (arith, f.left, g.fewer) }

pub further_then : (a b c : Recorded) → GoesFurther a b → GoesOn b c → GoesFurther a c
further_then a b c f g = record { goes_on = goes_then a b c f.goes_on g; fewer = omega (arith, f.fewer, g.left) }

pub longer : (xs : List Entry) (a : Entry) → [] ≡ xs ++ a ∷ [] → ⊥
longer [] a same = cc
longer (x ∷ xs) a same = cc

last_one : (xs ys : List Entry) (a b : Entry) → xs ++ a ∷ [] ≡ ys ++ b ∷ [] → a ≡ b
last_one [] [] a b same = cc
last_one [] (y ∷ ys) a b same = absurd (longer ys b (let e : [] ≡ ys ++ b ∷ [] = cc in e))
last_one (x ∷ xs) [] a b same = absurd (longer xs a (let e : [] ≡ xs ++ a ∷ [] = cc in e))
last_one (x ∷ xs) (y ∷ ys) a b same = last_one xs ys a b (let e : xs ++ a ∷ [] ≡ ys ++ b ∷ [] = cc in e)

-- a history ends with one deed
pub ends_once : (h : List Entry) (a b : Deed) → EndsWith h a → EndsWith h b → a ≡ b
ends_once h a b one other =
    ap (λ (e : Entry). e.deed) (last_one one.before other.before (record { by = one.by; deed = a }) (record { by = other.by; deed = b }) (sym one.is ∙ other.is))

-- one entry
module _ (r : Recorded) (d : Deed) where
  abbrev pub one : List Entry
  one = r.history ++ (record { by = 0; deed = d }) ∷ []

  pub ends_so : EndsWith one d
  ends_so = record { before = r.history; by = 0; is = refl }

  pub run_on : (event : Event) (reply : Reply) → IsRun r → Replies r.mission r.history event reply → IsLeftBy r.mission d event reply → is_tick d ≡ false → IsRun (recording r 0 d)
  run_on event reply run lawful left no_tick = record {
    run = run_more r.mission r.history (record { by = 0; deed = d }) run.run (may_add r.mission r.history 0 event reply d lawful left);
    eager = eager_other r.mission r.history (record { by = 0; deed = d }) run.eager no_tick;
  }

  pub goes : offered d ≡ None → steps_left one ≤ steps_left r.history → GoesOn r (recording r 0 d)
  goes none less = record { mission = refl; more = (record { by = 0; deed = d }) ∷ []; is = refl; no_plan = (none, tt); left = less }

  pub same_now : is_tick d ≡ false → now_of one ≡ now_of r.history
  same_now no_tick = now_of-push r.history (record { by = 0; deed = d }) ∙ ap (λ b. now_of r.history + cond b 1 0) no_tick ∙ (omega arith)

  -- no point is executed, no time goes by, and the plan is the same
  pub same_left : is_tick d ≡ false → executes d ≡ None → hands_over d ≡ None → steps_left one ≤ steps_left r.history
  same_left no_tick no_point no_plan =
      let e : Entry = record { by = 0; deed = d } in
      let open_are : open_points one ≡ open_points r.history =
      ap (λ (es : List Extension). filter (λ x. is_none (executed one x)) (numbers_from 0 (count es))) (plan_kept r.history e no_plan)
      ∙ ap (λ (ts : List Time). filter (λ x. is_none (time_at ts x)) (numbers_from 0 (count (plan_of r.history)))) (times_kept r.history e no_point) in
      omega (arith, same_now no_tick, ap length open_are)

  pub fails : is_failure d ≡ true → is_over (phase_of one) ≡ true
  fails failure = ap is_over (phase_failed one (failed_more r.history (record { by = 0; deed = d }) ∙ by_case (has_failed r.history)))
    where
      by_case : (b : Bool) → cond b true (is_failure d) ≡ true
      by_case true = refl
      by_case false = failure

  -- a running state stays so with an entry that fires no point and is no failure
  pub runs_on : phase_of r.history ≡ Running → Run r.mission one → is_failure d ≡ false → hands_over d ≡ None → ((x : PointId) → d ≢ Fire x) → phase_of one ≡ Running
  runs_on is run sound no_plan no_fire = by_case (has_ended one) refl
    where
      e : Entry
      e = record { by = 0; deed = d }

      was : IsRunning r.history
      was = running r.history is

      not_failed : has_failed one ≡ false
      not_failed = failed_more r.history e ∙ ap (λ b. cond b true (is_failure d)) was.sound ∙ sound

      some : plan_of one ≢ []
      some none = was.some (sym (plan_kept r.history e no_plan) ∙ none)

      by_case : (b : Bool) → has_ended one ≡ b → phase_of one ≡ Running
      by_case false is = phase_flying one false not_failed some is
      by_case true is = absurd (no_fire _ (ends_once one d _ ends_so (fires_last r.mission one run (phase_flying one true not_failed some is))))

-- a tick that went by
pub has_ticked : (old new : Recorded) → IsGoing old → NoneMayFire old.mission old.history → new ≡ recording old 0 Tick → Replies old.mission old.history tick done → HasTicked old new
has_ticked old new going still is lawful =
    let e : Entry = record { by = 0; deed = Tick } in
    let fewer = tick_fewer old.mission old.history 0 going.is_run.run lawful in
    let run : Run old.mission (one old Tick) = run_more old.mission old.history e going.is_run.run (may_add old.mission old.history 0 tick done Tick lawful (refl, refl)) in
    subst (HasTicked old) (sym is) (record {
      is = refl;
      goes_further = record { goes_on = goes old Tick refl (omega (arith, fewer)); fewer = fewer };
      going = record {
        is_run = record { run = run; eager = eager_settled old.mission old.history e going.is_run.eager still };
        running = runs_on old Tick going.running run refl refl (λ x. λ (same : Tick ≡ Fire x). cc);
      };
    })

-- one that didn't: a report is late
pub is_late : (old new : Recorded) (reply : ExecReply) → new.mission ≡ old.mission → IsGoing old → NoneMayFire old.mission old.history → Turn old.mission old.history 0 tick (reply_of reply) new.history → reply ≢ Done → IsLate old new
is_late old new reply mission going still turn other = by_case (tick_answered old.mission old.history (reply_of reply) going.is_run.run going.running still turn.answers.lawful)
  where
    by_case : (reply_of reply ≡ done) ⊎ ((b : Bound) × (reply_of reply ≡ failed b)) → IsLate old new
    by_case (inl is) = absurd (other (done_only reply is))
    by_case (inr (b, is)) = record { bound = b; is = late_is old new 0 reply mission b turn is; lawful = rw is at turn.answers.lawful }

-- a report that comes early
pub comes_early : (old new : Recorded) (reply : ExecReply) (end : PointId) → new.mission ≡ old.mission → IsGoing old → IsAwaited end old → Turn old.mission old.history 0 (report end.0) (reply_of reply) new.history → reply ≢ Done → ComesEarly end old new
comes_early old new reply end mission going awaited turn other =
    by_case (open_reported old.mission old.history awaited.device awaited.script (reply_of reply) going.running awaited.opens (subst (λ (x : ℕ). Replies old.mission old.history (report x) (reply_of reply)) (sym awaited.ends) turn.answers.lawful))
  where
    by_case : (reply_of reply ≡ done) ⊎ ((b : Bound) × (reply_of reply ≡ failed b) × (b.from.0 ≡ awaited.script.point)) → ComesEarly end old new
    by_case (inl is) = absurd (other (done_only reply is))
    by_case (inr (b, is, from)) = record { bound = b; is = early_is old new 0 reply mission end.0 b turn is; from = from ∙ awaited.ends; lawful = rw is at turn.answers.lawful }
