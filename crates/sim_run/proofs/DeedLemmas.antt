-- What a report, and what ends a run, does to its devices.
use Rattle.std.proofs.Common.{◌≡◌, ◌⊎◌, ℕ, suc, List, [], ◌∷◌, ◌++◌, None, refl, sym, ap, ◌∙◌, subst, arith, inl, inr}
use Rattle.std.specs.Prelude.{◌<◌, length}
use Rattle.hs_base.specs.declared.ids.PointId.{PointId}
use Rattle.hs_base.specs.declared.ids.SvId.{SvId}
use Rattle.hs_machine.specs.declared.history.Deed.TheVariants.{Broken, Early, Fire, Report}
use Rattle.hs_machine.specs.declared.history.Entry.{Entry}
use Rattle.hs_machine.specs.Machine.{broken, done, failed, report, Replies}
use Rattle.hs_machine.specs.Reports.{Polls}
use Rattle.hs_machine.specs.State.{now_of}
use Rattle.hs_port.specs.Causes.{Rose}
use Rattle.exec_core.specs.Recorded.{Recorded, recording}
use Rattle.simulation_laws.specs.Attended.{IsAttended}
use Rattle.simulation_laws.specs.Ending.{EndsByDevice}
use Rattle.simulation_laws.specs.Standing.{Attends, HasJustBegun, Standing, Stands}
use Rattle.simulation_laws.proofs.AttendLemmas.{attended, attended_before}
use Rattle.simulation_laws.proofs.GoLemmas.{report_fewer}
use Rattle.simulation_laws.proofs.StandLemmas.{early_beside, stands_beside, stands_early, stands_idle, stands_reported}
use Rattle.sim_run.specs.Told.{HasTold, Known}
use Rattle.sim_run.specs.Moves.{IsGoing, IsRun}
use Rattle.sim_run.specs.Parts.{ComesEarly, HasEnded, IsAsked, IsReported}
use Rattle.sim_run.proofs.MoveLemmas.{ends_once, ends_so, fails, goes, one, run_on, runs_on, same_left, same_now}
use Rattle.sim_run.proofs.PostLemmas.{IsDue, with_script}

-- the report of a script's end was Done
pub asked_reported : (w : ℕ) (old new : Recorded) (before now : Known) (end : PointId) → IsGoing old → IsDue old.mission old.history w (now_of old.history) before now end → IsReported end old new → IsAsked w old new before now (with_script end None)
asked_reported w old new before now end going due r = subst (λ (x : Recorded). IsAsked w old x before now (with_script end None)) (sym r.is) (record {
  goes_on = goes old (Report end) refl (omega (arith, report_fewer old.mission old.history 0 end r.lawful));
  going = record { is_run = run; running = runs_on old (Report end) going.running run.run refl refl (λ x. λ (e : Report end ≡ Fire x). cc) };
  same_tick = same_now old (Report end) refl;
  others = λ d polls k st apart s. stands_beside old.mission old.history 0 end going.is_run.run r.lawful w due.script due.ends due.opens d apart polls k st s;
  manned = record { polls = due.polls; told = due.told; standing = anew.0; stands = anew.1; run = anew.2 };
})
  where
    run : IsRun (recording old 0 (Report end))
    run = run_on old (Report end) (report end.0) done going.is_run r.lawful (refl, refl) refl

    anew : (st : Standing) × Stands old.mission (one old (Report end)) w due.polls (now_of old.history) st × HasJustBegun (now_of old.history) st
    anew = stands_reported old.mission old.history 0 end going.is_run.run r.lawful w due.polls due.script due.ends due.finishes due.opens

-- it came early
pub ended_early : (w : ℕ) (old new : Recorded) (before now : Known) (end : PointId) → IsGoing old → IsDue old.mission old.history w (now_of old.history) before now end → ComesEarly end old new → HasEnded w old new before now
ended_early w old new before now end going due r = subst (λ (x : Recorded). HasEnded w old x before now) (sym r.is) (record {
  goes_on = goes old (Early r.bound) refl (same_left old (Early r.bound) refl refl refl);
  is_run = run_on old (Early r.bound) (report end.0) (failed r.bound) going.is_run r.lawful (ap report (sym r.from), refl) refl;
  over = fails old (Early r.bound) refl;
  same_tick = same_now old (Early r.bound) refl;
  by_device = record { deed = Early r.bound; ends = ends_so old (Early r.bound); outcome = refl };
  others = λ d polls k st apart s. early_beside old.mission old.history 0 r.bound w due.script from due.opens d apart polls k st s;
  served = record { polls = due.polls; told = due.told; attended = stands_early old.mission old.history 0 r.bound w due.script from due.opens due.polls due.finishes };
  broken = λ v ends. absurd (let e : Early r.bound ≡ Broken v = ends_once (one old (Early r.bound)) (Early r.bound) (Broken v) (ends_so old (Early r.bound)) ends in cc);
})
  where
    from : r.bound.from.0 ≡ due.script.point
    from = r.from ∙ sym due.ends

-- the device failed
pub ended_broken : (v : SvId) (old new : Recorded) (before now : Known) (polls : Polls) (k : ℕ) (st : Standing) → IsGoing old → v.0 < length old.mission.vars → HasTold before now polls → Stands old.mission old.history v.0 polls k st → (k ≡ now_of old.history) ⊎ (suc k ≡ now_of old.history) → Rose before.faults now.faults → new ≡ recording old 0 (Broken v) → Replies old.mission old.history (broken v.0) done → HasEnded v.0 old new before now
ended_broken v old new before now polls k st going there told stands at rose is lawful = subst (λ (x : Recorded). HasEnded v.0 old x before now) (sym is) (record {
  goes_on = goes old (Broken v) refl (same_left old (Broken v) refl refl refl);
  is_run = run_on old (Broken v) (broken v.0) done going.is_run lawful (refl, refl) refl;
  over = fails old (Broken v) refl;
  same_tick = same_now old (Broken v) refl;
  by_device = by_device;
  others = λ d ps j s apart stood. stands_idle old.mission old.history e d ps j s refl refl refl stood;
  served = record { polls = polls; told = told; attended = by_time at };
  broken = λ u ends. (let same : Broken v ≡ Broken u = ends_once (one old (Broken v)) (Broken v) (Broken u) (ends_so old (Broken v)) ends in (let n : u.0 ≡ v.0 = cc in n), rose);
})
  where
    e : Entry
    e = record { by = 0; deed = Broken v }

    after : List Entry
    after = old.history ++ (record { by = 0; deed = Broken v }) ∷ []

    by_device : EndsByDevice (one old (Broken v))
    by_device = record { deed = Broken v; ends = ends_so old (Broken v); outcome = refl }

    stood : Stands old.mission (one old (Broken v)) v.0 polls k st
    stood = stands_idle old.mission old.history (record { by = 0; deed = Broken v }) v.0 polls k st refl refl refl stands

    by_time : (k ≡ now_of old.history) ⊎ (suc k ≡ now_of old.history) → IsAttended old.mission (one old (Broken v)) v.0 polls
    by_time (inl here) = attended old.mission (one old (Broken v)) v.0 polls st (subst (λ (n : ℕ). Attends old.mission (one old (Broken v)) v.0 polls n st) (here ∙ sym (same_now old (Broken v) refl)) stood.attends)
    by_time (inr next) = attended_before old.mission (one old (Broken v)) v.0 polls k st (next ∙ sym (same_now old (Broken v) refl)) by_device stood.attends
