-- What each turn of a run does to how its devices stand.
use Rattle.std.proofs.Common.{None, ◌≡◌, ◌≢◌, ℕ, suc, List, [], ◌∷◌, ◌++◌, refl, sym, ap, ◌∙◌, pos, add-zero}
use Rattle.hs_base.specs.declared.ids.PointId.{PointId}
use Rattle.hs_base.specs.declared.ids.WordId.{WordId}
use Rattle.hs_base.specs.declared.mission.Mission.{Mission}
use Rattle.hs_base.specs.declared.net.Bound.{Bound}
use Rattle.hs_base.specs.declared.net.Net.{Net}
use Rattle.hs_base.specs.declared.plan.Extension.{Extension}
use Rattle.hs_base.specs.Checked.{KeepsRules}
use Rattle.hs_base.specs.Walks.{EachAfter}
use Rattle.hs_machine.specs.declared.history.Deed.TheVariants.{Early, Fire, Handover, Report}
use Rattle.hs_machine.specs.declared.history.Entry.{Entry}
use Rattle.hs_machine.specs.declared.history.Phase.TheVariants.{Running}
use Rattle.hs_machine.specs.Machine.{Replies, done, fire, report}
use Rattle.hs_machine.specs.Reports.{Polls, Script, still_awaited}
use Rattle.hs_machine.specs.Run.{Run}
use Rattle.hs_machine.specs.State.{executes, hands_over, now_of, phase_of, plan_of}
use Rattle.hs_port.specs.declared.device.Answer.{Answer}
use Rattle.run_laws.proofs.CheckedLemmas.{run_checked}
use Rattle.run_laws.proofs.RunLemmas.{reported}
use Rattle.run_laws.proofs.StateLemmas.{now_of-push}
use Rattle.exec_laws.proofs.EndingLemmas.{last_horizon}
use Rattle.exec_laws.proofs.HorizonLemmas.{before_horizon}
use Rattle.exec_laws.proofs.ReplyLemmas.{done_running}
use Rattle.exec_laws.proofs.RunningLemmas.{executed_in}
use Rattle.exec_laws.proofs.StepLemmas.{running as in_flight}
use Rattle.simulation_laws.proofs.AfterLemmas.{fired_so}
use Rattle.simulation_laws.proofs.HandedLemmas.{handed_checked}
use Rattle.simulation_laws.specs.Attended.{IsAttended}
use Rattle.simulation_laws.specs.Reported.{report_by}
use Rattle.simulation_laws.specs.Standing.{Finishes, IsOpen, Opens, Standing, Stands, StandsAnew, StandsOn, resting, running}
use Rattle.simulation_laws.proofs.AttendLemmas.{attended_early, attends_idle, attends_on, attends_unasked, finishes}
use Rattle.simulation_laws.proofs.ExecuteLemmas.{IsEndOf, executed_other, fired_keeps, one_timeline, report_of_end, report_of_other, reported_keeps}
use Rattle.simulation_laws.proofs.HandLemmas.{first_keeps, handed_keeps}
use Rattle.simulation_laws.proofs.OpenLemmas.{open_idle}

-- an entry that hands nothing over, executes nothing and tells no report of the device
pub stands_idle : (m : Mission) (h : List Entry) (e : Entry) (d : ℕ) (polls : Polls) (k : ℕ) (st : Standing) → hands_over e.deed ≡ None → executes e.deed ≡ None → report_by d h e.deed ≡ [] → Stands m h d polls k st → Stands m (h ++ e ∷ []) d polls k st
stands_idle m h e d polls k st no_plan no_point quiet s = record { attends = attends_idle m h e d polls k st no_plan no_point quiet s.attends; opens = still st s.opens }
  where
    still : (st : Standing) → Opens m h d st → Opens m (h ++ e ∷ []) d st
    still resting o = tt
    still (running t left) o = open_idle m h e d t no_plan no_point o

-- a device that rests isn't asked at the next tick
pub stands_unasked : (m : Mission) (h : List Entry) (d : ℕ) (polls : Polls) (k : ℕ) → Stands m h d polls k resting → Stands m h d polls (suc k) resting
stands_unasked m h d polls k s = record { attends = attends_unasked m h d polls k s.attends; opens = tt }

-- one that runs a script is, and goes on with it
pub stands_on : (m : Mission) (h : List Entry) (d : ℕ) (polls : Polls) (k : ℕ) (s : Script) (left : List WordId) (answer : Answer) → Stands m h d polls k (running s left) → still_awaited left answer ≢ [] → Stands m h d (polls ++ (pos (suc k), answer) ∷ []) (suc k) (running s (still_awaited left answer))
stands_on m h d polls k s left answer a some = record { attends = attends_on m h d polls k s left a.attends answer some; opens = a.opens }

-- or finishes it
pub stands_no_more : (m : Mission) (h : List Entry) (d : ℕ) (polls : Polls) (k : ℕ) (s : Script) (left : List WordId) (answer : Answer) → Stands m h d polls k (running s left) → still_awaited left answer ≡ [] → Finishes m h d (polls ++ (pos (suc k), answer) ∷ []) (suc k) s × IsOpen m h d s
stands_no_more m h d polls k s left answer a none = (finishes m h d polls k s left a.attends answer none, a.opens)

-- the plan of a running state keeps its rules
module _ (m : Mission) (h : List Entry) (run : Run m h) (is : phase_of h ≡ Running) where
  rules : EachAfter (KeepsRules m) [] (plan_of h)
  rules = (run_checked m h run (in_flight h is).some).rules

-- a Fire
pub stands_fired : (m : Mission) (h : List Entry) (by : ℕ) (x : PointId) → Run m h → Replies m h (fire x.0) done → (d : ℕ) (polls : Polls) (st : Standing) → Stands m h d polls (now_of h) st → StandsOn m (h ++ (record { by = by; deed = Fire x }) ∷ []) d polls (now_of h) st
stands_fired m h by x run lawful d polls st s =
    let f = fired_so m h x.0 lawful in
    let is = done_running m h (fire x.0) lawful refl in
    fired_keeps m h (record { by = by; deed = Fire x }) x run.mission (rules m h run is) (executed_in m h run).late refl refl f.none f.may.s f.may.fits f.may.here f.own (λ w. refl) d polls (now_of h) st refl s

-- a Report
module _ (m : Mission) (h : List Entry) (by : ℕ) (x : PointId) (run : Run m h) (lawful : Replies m h (report x.0) done) where
  of_script : (w : ℕ) (t : Script) → t.point ≡ x.0 → IsOpen m h w t → IsEndOf (plan_of h) w x.0
  of_script w t same o = record { place = o.place; below = o.below; is = o.end ∙ same }

  -- by the device whose script has finished
  pub stands_reported : (d : ℕ) (polls : Polls) (t : Script) → t.point ≡ x.0 → Finishes m h d polls (now_of h) t → IsOpen m h d t → StandsAnew m (h ++ (record { by = by; deed = Report x }) ∷ []) d polls (now_of h)
  stands_reported d polls t same f o =
      let r = reported m h x.0 lawful in
      let is = done_running m h (report x.0) lawful refl in
      reported_keeps m h (record { by = by; deed = Report x }) x run.mission (rules m h run is) (executed_in m h run).late refl refl r.0 r.1.s r.1.fits r.1.here d polls (now_of h) t refl same
      (report_of_end h d x (of_script d t same o) ∙ ap (λ (y : ℕ). (y, pos (now_of h)) ∷ []) (sym same)) f o

  -- and what it does to another device
  pub stands_beside : (w : ℕ) (t : Script) → t.point ≡ x.0 → IsOpen m h w t → (d : ℕ) → (d ≡ w → ⊥) → (polls : Polls) (k : ℕ) (st : Standing) → Stands m h d polls k st → Stands m (h ++ (record { by = by; deed = Report x }) ∷ []) d polls k st
  stands_beside w t same o d apart polls k st s =
      let r = reported m h x.0 lawful in
      let is = done_running m h (report x.0) lawful refl in
      executed_other m h (record { by = by; deed = Report x }) x run.mission (rules m h run is) (executed_in m h run).late refl refl r.0 r.1.s r.1.fits r.1.here d polls k st
      (one_timeline (plan_of h) d w x.0 apart (of_script w t same o)) (report_of_other h d w x apart (of_script w t same o)) s

-- a report that comes early
module _ (m : Mission) (h : List Entry) (by : ℕ) (b : Bound) (w : ℕ) (t : Script) (same : b.from.0 ≡ t.point) (o : IsOpen m h w t) where
  early_end : IsEndOf (plan_of h) w b.from.0
  early_end = record { place = o.place; below = o.below; is = o.end ∙ sym same }

  -- is that of its own device
  pub stands_early : (polls : Polls) → Finishes m h w polls (now_of h) t → IsAttended m (h ++ (record { by = by; deed = Early b }) ∷ []) w polls
  stands_early polls f =
      attended_early m h (record { by = by; deed = Early b }) b w polls (now_of h) t (now_of-push h (record { by = by; deed = Early b }) ∙ add-zero (now_of h)) refl
      (report_of_end h w b.from early_end ∙ ap (λ (y : ℕ). (y, pos (now_of h)) ∷ []) same) f

  -- and of no other one
  pub early_beside : (d : ℕ) → (d ≡ w → ⊥) → (polls : Polls) (k : ℕ) (st : Standing) → Stands m h d polls k st → Stands m (h ++ (record { by = by; deed = Early b }) ∷ []) d polls k st
  early_beside d apart polls k st s = stands_idle m h (record { by = by; deed = Early b }) d polls k st refl refl (report_of_other h d w b.from apart early_end) s

-- the first handover
pub stands_first : (m : Mission) (by : ℕ) (e : Extension) (n : Net) → Run m ((record { by = by; deed = Handover e n }) ∷ []) → (d : ℕ) → StandsAnew m ((record { by = by; deed = Handover e n }) ∷ []) d [] 0
stands_first m by e n run d = first_keeps m [] (record { by = by; deed = Handover e n }) e n refl run.mission refl refl d refl

-- and a later one
pub stands_handed : (m : Mission) (h : List Entry) (by : ℕ) (e : Extension) (n : Net) → Run m h → phase_of h ≡ Running → Run m (h ++ (record { by = by; deed = Handover e n }) ∷ []) → (d : ℕ) (polls : Polls) (k : ℕ) (st : Standing) → Stands m h d polls k st → Stands m (h ++ (record { by = by; deed = Handover e n }) ∷ []) d polls k st
stands_handed m h by e n run is run2 d polls k st s =
    let r = in_flight h is in
    let all = executed_in m h run in
    let g = last_horizon m (plan_of h) (run_checked m h run r.some) r.some in
    handed_keeps m h (record { by = by; deed = Handover e n }) e n refl run all.within all.late (handed_checked m h by e n run2) (rules m h run is) r.some g.0 g.1 (before_horizon m h g.0 run r.some r.open_mark g.1) d polls k st s
