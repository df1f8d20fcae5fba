-- What a handover does to how a device stands.
use Rattle.simulation_laws.proofs.ScriptLemmas.{script_at}
use Rattle.std.proofs.Common.{◌≡◌, ◌≢◌, ℕ, ◌-◌, ◌<◌, List, [], ◌∷◌, ◌++◌, length, Option, Some, None, refl, ap, ◌∙◌, subst, pos, append-nil}
use Rattle.std.specs.Prelude.{ℤ, ◌≤ℤ◌, slice_get}
use Rattle.hs_base.specs.declared.mission.Horizon.{Horizon}
use Rattle.hs_base.specs.declared.mission.Kind.{Kind}
use Rattle.hs_base.specs.declared.mission.Mission.{Mission}
use Rattle.hs_base.specs.declared.plan.Extension.{Extension}
use Rattle.hs_base.specs.declared.net.Net.{Net}
use Rattle.hs_machine.specs.declared.history.Entry.{Entry}
use Rattle.hs_machine.specs.declared.history.Deed.TheVariants.{Handover}
use Rattle.hs_base.specs.Walks.{EachAfter}
use Rattle.hs_base.specs.Bounds.{on_some}
use Rattle.hs_base.specs.Missions.{IsMission}
use Rattle.hs_base.specs.Points.{start_at}
use Rattle.hs_base.specs.Checked.{Checked, KeepsRules}
use Rattle.hs_base.specs.Fits.{Times, time_at}
use Rattle.hs_machine.specs.Run.{Run}
use Rattle.hs_machine.specs.State.{count_at, executed, executes, hands_over, plan_of, tick_at}
use Rattle.run_laws.proofs.StateLemmas.{plan_handed, times_kept}
use Rattle.hs_machine.specs.Reports.{Polls, Script}
use Rattle.simulation_laws.specs.Reported.{report_by, reports_in, timeline_in}
use Rattle.simulation_laws.proofs.HistoryLemmas.{reports-push, scripts_handed}
use Rattle.simulation_laws.proofs.RisingLemmas.{end_at}
use Rattle.simulation_laws.specs.Standing.{Standing, resting, running, Opens, Stands, StandsAnew}
use Rattle.simulation_laws.proofs.AttendLemmas.{just_begun, standing_of, attends_same, begins_more}
use Rattle.simulation_laws.proofs.BeginLemmas.{opens_script, scripts_first, first_begins, zero_alone}
use Rattle.simulation_laws.proofs.OpenLemmas.{open_handed}

-- a later one
module _ (m : Mission) (h : List Entry) (e : Entry) (x : Extension) (net : Net) (deed : e.deed ≡ Handover x net) (run : Run m h) (within : (y : ℕ) (t : ℤ) → executed h y ≡ Some t → y < count_at h) (late : (y : ℕ) (t : ℤ) → executed h y ≡ Some t → t ≤ℤ tick_at h) (checked : Checked m (plan_of h ++ x ∷ [])) (front : EachAfter (KeepsRules m) [] (plan_of h)) (some : plan_of h ≢ []) (g : Horizon) (is : slice_get m.horizons (length (plan_of h) - 1) ≡ Some g) (early : tick_at h ≤ℤ g.tick) where
  pub handed_keeps : (d : ℕ) (polls : Polls) (k : ℕ) (st : Standing) → Stands m h d polls k st → Stands m (h ++ e ∷ []) d polls k st
  handed_keeps d polls k st a = record {
    attends = attends_same m h e d polls k st (scripts_handed m h e x run within late (ap hands_over deed) (ap executes deed) checked front some g is early d) (ap (report_by d h) deed) a.attends;
    opens = still st a.opens;
  }
    where
      still : (st : Standing) → Opens m h d st → Opens m (h ++ e ∷ []) d st
      still resting o = tt
      still (running t left) o = open_handed m h e x d t (ap hands_over deed) (ap executes deed) o

-- the first one
module _ (m : Mission) (h : List Entry) (e : Entry) (x : Extension) (net : Net) (deed : e.deed ≡ Handover x net) (mission : IsMission m) (none : plan_of h ≡ []) (at : executed h ≡ executed []) where
  pub first_keeps : (d : ℕ) → reports_in h d ≡ [] → StandsAnew m (h ++ e ∷ []) d [] 0
  first_keeps d silent = (
    standing_of new,
    record {
      attends = begins_more m (h ++ e ∷ []) d [] 0 [] (record { over = tt }) tt refl (reports-push h e d ∙ ap (λ l. reports_in h d ++ l) (ap (report_by d h) deed) ∙ append-nil _ ∙ silent) new (scripts_first m h e x none at (ap hands_over deed) (ap executes deed) d) (first_begins m mission x d);
      opens = by_token (slice_get (timeline_in (x ∷ []) d) 0) refl;
    },
    just_begun 0 new (first_begins m mission x d),
  )
    where
      plan : plan_of (h ++ e ∷ []) ≡ x ∷ []
      plan = plan_handed h e x (ap hands_over deed) ∙ ap (λ (es : List Extension). es ++ x ∷ []) none

      times : executed (h ++ e ∷ []) ≡ executed []
      times = ap time_at (times_kept h e (ap executes deed)) ∙ at

      new : List Script
      new = on_some (slice_get (timeline_in (x ∷ []) d) 0) (script_at m (x ∷ []) (executed []) d 0)

      by_token : (o : Option Kind) → slice_get (timeline_in (x ∷ []) d) 0 ≡ o → Opens m (h ++ e ∷ []) d (standing_of (on_some o (script_at m (x ∷ []) (executed []) d 0)))
      by_token None token = tt
      by_token (Some kind) token =
          subst (λ (es : List Extension). Opens m (h ++ e ∷ []) d (standing_of (script_at m es (executed []) d 0 kind))) plan
          (subst (λ (u : Times). Opens m (h ++ e ∷ []) d (standing_of (script_at m (plan_of (h ++ e ∷ [])) u d 0 kind))) times
          (opens_script m (h ++ e ∷ []) d 0 kind (pos 0)
          (ap (λ (es : List Extension). slice_get (timeline_in es d) 0) plan ∙ token)
          (ap (λ (es : List Extension). executed (h ++ e ∷ []) (start_at es d 0)) plan ∙ ap (λ (u : Times). u (start_at (x ∷ []) d 0)) times)
          (ap (λ (es : List Extension). executed (h ++ e ∷ []) (end_at es d 0)) plan ∙ ap (λ (u : Times). u (end_at (x ∷ []) d 0)) times ∙ zero_alone _)))
