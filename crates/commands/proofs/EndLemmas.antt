-- How a run ends, and how that is told.
use Rattle.std.proofs.Common.{◌≡◌, ◌≢◌, ◌⊎◌, ℕ, ◌<◌, Bool, true, false, cond, List, [], ◌∷◌, ◌++◌, length, refl, sym, ap, ◌∙◌, subst, arith, inl, inr, Option, None, ◌&&◌}
use Rattle.std.proofs.lemmas.Bool.{cases_Bool}
use Rattle.std.specs.Prelude.{IfOk, OnOk, Result, Ok, Err}
use Rattle.hs_base.specs.declared.ids.SvId.{SvId}
use Rattle.hs_base.specs.declared.mission.Mission.{Mission}
use Rattle.hs_base.specs.declared.net.Bound.{Bound}
use Rattle.hs_base.specs.declared.plan.Extension.{Extension}
use Rattle.hs_base.specs.Points.{count}
use Rattle.hs_base.specs.Walks.{EachAfter}
use Rattle.base_laws.proofs.ListLemmas.{snoc_induction}
use Rattle.hs_machine.specs.declared.history.Deed.{Deed}
use Rattle.hs_machine.specs.declared.history.Deed.TheVariants.{Tick, Fire, Report, Handover, Stale, Late, Early, Broken}
use Rattle.hs_machine.specs.declared.history.Entry.{Entry}
use Rattle.hs_machine.specs.declared.history.Phase.{Phase}
use Rattle.hs_machine.specs.declared.history.Phase.TheVariants.{Failed}
use Rattle.hs_machine.specs.Machine.{Event, IsLeftBy, RefusedIf, Reply, Replies, is_over, over, is_waiting, needs_net, EventReply, no_net}
use Rattle.hs_machine.specs.Reports.{Polls}
use Rattle.hs_machine.specs.Run.{MayAdd, Run}
use Rattle.hs_machine.specs.State.{has_failed, is_failure, phase_of, plan_of}
use Rattle.exec_laws.proofs.StepLemmas.{failed_more, phase_failed}
use Rattle.log_laws.specs.LogText.{log_text}
use Rattle.hs_texts.specs.ClosingText.{budget_line, device_fault_line, done_line, failed_line, no_plan_line}
use Rattle.journal_text.specs.Reasons.{why_text}
use Rattle.run_reasons.specs.Reasons.{IsReason}
use Rattle.simulation_laws.specs.Ended as ended
use Rattle.simulation_laws.specs.Ended.{AreAdded, End, FindsEachPlan, Heard, IsEnd, IsFailedBy, IsSimRun, RoseAt, takes_all}
use Rattle.simulation_laws.specs.Ending.{EndsWith}
use Rattle.simulation_laws.specs.Simulated.{Attempts, all, none_found, nodes_ended}
use Rattle.simulation_laws.proofs.CompleteLemmas.{is_completed}
use Rattle.simulation_laws.proofs.FailLemmas.{failed_by_tight}
use Rattle.sim_run.specs.Runs.{IsRunOf}
use Rattle.commands.specs.Runs.{Closes, IsClosed, IsSimTold, status_at}
use Rattle.commands.specs.declared.status.Status.{Status}
use Rattle.commands.specs.declared.status.Status.TheVariants.{Budget, DeviceFault, Done, NoPlan, PlanFailed}

-- what an Ok says by two clauses
pub both : {T E : Type 0} (r : Result T E) (P : Type 0) (Q W : T → Type 0) → OnOk r P → IfOk r Q → ((x : T) → P → Q x → W x) → IfOk r W
both (Ok x) P Q W p q f = f x p q
both (Err e) P Q W p q f = tt

-- the last entry of a history is a failure
record FailsLast (h : List Entry) : Type 0 where
  before : List Entry
  last : Entry
  is : h ≡ before ++ last ∷ []
  fails : is_failure last.deed ≡ true

-- a run that is over gets no further entry
over_leaves : (m : Mission) (deed : Deed) (event : Event) (reply : Reply) → reply ≡ over → IsLeftBy m deed event reply → ⊥
over_leaves m Tick event reply is l = absurd (let e = sym is ∙ l.1 in cc)
over_leaves m (Fire x) event reply is l = absurd (let e = sym is ∙ l.1 in cc)
over_leaves m (Report x) event reply is l = absurd (let e = sym is ∙ l.1 in cc)
over_leaves m (Handover x n) event reply is l = absurd (let e = sym is ∙ l.2 in cc)
over_leaves m (Stale x b p q) event reply is l = absurd (let e = sym is ∙ l.2 in cc)
over_leaves m (Late b) event reply is l = absurd (let e = sym is ∙ l.1 in cc)
over_leaves m (Early b) event reply is l = absurd (let e = sym is ∙ l.1 in cc)
over_leaves m (Broken d) event reply is l = absurd (let e = sym is ∙ l.1 in cc)

-- so a run that has failed ends with its failure
failure_last : (m : Mission) (h : List Entry) → Run m h → has_failed h ≡ true → FailsLast h
failure_last m h run =
    snoc_induction (λ (l : List Entry). has_failed l ≡ true → FailsLast l) (MayAdd m) step [] h (λ e. absurd (cc)) run.entries
  where
    step : (before : List Entry) (x : Entry) → MayAdd m before x → (has_failed before ≡ true → FailsLast before) → has_failed (before ++ x ∷ []) ≡ true → FailsLast (before ++ x ∷ [])
    step before x may p fails = elim (cases_Bool (has_failed before)) [
      | inl yes_ ↦
          let phase : phase_of before ≡ Failed = phase_failed before yes_ in
          let is : may.reply ≡ over = subst (λ (f : Phase). RefusedIf (is_over f) over may.reply (RefusedIf (is_waiting f && needs_net may.event) no_net may.reply (EventReply m before may.event may.reply))) phase may.answers.lawful in
          absurd (over_leaves m x.deed may.event may.reply is may.answers.leaves.1)
      | inr no_ ↦ record { before = before; last = x; is = refl; fails = sym (failed_more before x ∙ ap (λ b. cond b true (is_failure x.deed)) no_) ∙ fails }
    ]

-- and by a device, where it didn't by a bound
broken_last : (m : Mission) (h : List Entry) → Run m h → has_failed h ≡ true → ((b : Bound) → IsFailedBy h b → ⊥) → (d : SvId) × EndsWith h (Broken d)
broken_last m h run fails kept =
    let f = failure_last m h run fails in
    by_deed f.before f.last.by f.last.deed f.is f.fails
  where
    by_deed : (before : List Entry) (by : ℕ) (deed : Deed) → h ≡ before ++ (record { by = by; deed = deed }) ∷ [] → is_failure deed ≡ true → (d : SvId) × EndsWith h (Broken d)
    by_deed before by (Broken d) is f = (d, record { before = before; by = by; is = is })
    by_deed before by (Late b) is f = absurd (kept b (inl (record { before = before; by = by; is = is })))
    by_deed before by (Early b) is f = absurd (kept b (inr (record { before = before; by = by; is = is })))
    by_deed before by Tick is f = absurd (cc)
    by_deed before by (Fire x) is f = absurd (cc)
    by_deed before by (Report x) is f = absurd (cc)
    by_deed before by (Handover x n) is f = absurd (cc)
    by_deed before by (Stale x b p q) is f = absurd (cc)

-- without a plan no bound is broken
pub unplanned_kept : (m : Mission) (h : List Entry) → Run m h → plan_of h ≡ [] → (b : Bound) → IsFailedBy h b → ⊥
unplanned_kept m h run none b failed =
    let t = failed_by_tight m h b run failed in
    let points : count (plan_of h) ≡ 1 = ap count none in
    let low : b.from.0 < count (plan_of h) = t.fit.from in
    let high : b.to.0 < count (plan_of h) = t.fit.to in
    t.apart (same_point (omega (arith, points, low, high)))
  where
    same_point : b.from.0 ≡ b.to.0 → b.from ≡ b.to
    same_point e = ap (λ (n : ℕ). record { 0 = n }) e

module _ (m : Mission) (nodes : ℕ) (given : Option Extension) (heard : List Heard) (h : List Entry) (head text : List ℕ) (status : Status) where
  -- a run that hasn't failed is completed
  pub closed_done : IsRunOf m nodes given heard h all → (phase_of h ≡ Failed → ⊥) → status ≡ Done → text ≡ head ++ done_line → IsClosed heard m h all head status text
  closed_done r sound told line = record { end = ended.completed; ends = (refl, elim r.simulated.ends [ inl f ↦ absurd (sound (phase_failed h f)) | inr c ↦ c ]); told = told; lines = line }

  -- one that failed by a bound has its reason
  pub closed_failed : (chain : List Bound) → IsReason m h chain → status ≡ PlanFailed → text ≡ head ++ why_text m (plan_of h) chain ++ failed_line → IsClosed heard m h all head status text
  closed_failed chain reason told line = record { end = ended.failed; ends = (refl, (reason.bound, reason.failed)); told = told; lines = (chain, reason, line) }

  -- and one that didn't is broken by a device
  pub closed_broken : IsRunOf m nodes given heard h all → has_failed h ≡ true → ((b : Bound) → IsFailedBy h b → ⊥) → status ≡ DeviceFault → text ≡ head ++ device_fault_line → IsClosed heard m h all head status text
  closed_broken r fails kept told line =
      let last = broken_last m h r.simulated.run fails kept in
      record { end = ended.broken; ends = (refl, (last.0, record { ends = last.1; rose = r.broken last.0 last.1 })); told = told; lines = line }

  pub closed_none : (front : ℕ) → front ≡ length h → status ≡ NoPlan → text ≡ head ++ no_plan_line front → IsClosed heard m h none_found head status text
  closed_none front is told line = record { end = ended.no_plan; ends = refl; told = told; lines = line ∙ ap (λ (n : ℕ). head ++ no_plan_line n) is }

  pub closed_budget : (front : ℕ) (path : List ℕ) → front ≡ length h → status ≡ Budget → text ≡ head ++ budget_line front path → IsClosed heard m h (nodes_ended path) head status text
  closed_budget front path is told line = record { end = ended.budget path; ends = refl; told = told; lines = line ∙ ap (λ (n : ℕ). head ++ budget_line n path) is }

  -- a run and its end are told by the log with the lines of the end
  pub run_told : (attempts : Attempts) → IsRunOf m nodes given heard h attempts → head ≡ log_text m h → IsClosed heard m h attempts head status text → IsSimTold nodes given heard m status text
  run_told attempts r log c = record {
    history = h;
    end = c.end;
    run = record { polls = r.polls; added = r.added; attempts = attempts; simulated = r.simulated; unseeded = λ _. r.unseeded; ends = c.ends };
    told = c.told;
    lines = subst (λ (l : List ℕ). Closes m h l c.end text) log c.lines;
  }

-- what is told of a run by a part of what the devices told
pub heard_more : (nodes : ℕ) (given : Option Extension) (part whole : List Heard) (m : Mission) (status : Status) (text : List ℕ) → ((l : ℕ → Polls) → AreAdded part l → AreAdded whole l) → ((d : ℕ) → RoseAt part d → RoseAt whole d) → IsSimTold nodes given part m status text → IsSimTold nodes given whole m status text
heard_more nodes given part whole m status text more rose t = record {
  history = t.history;
  end = t.end;
  run = record { polls = t.run.polls; added = more t.run.polls t.run.added; attempts = t.run.attempts; simulated = t.run.simulated; unseeded = t.run.unseeded; ends = ends_so t.end t.run.ends };
  told = t.told;
  lines = t.lines;
}
  where
    ends_so : (end : End) → IsEnd m part t.history t.run.attempts end → IsEnd m whole t.history t.run.attempts end
    ends_so ended.completed e = e
    ends_so ended.failed e = e
    ends_so ended.broken e = (e.0, (e.1.0, record { ends = e.1.1.ends; rose = rose e.1.0.0 e.1.1.rose }))
    ends_so ended.no_plan e = e
    ends_so (ended.budget path) e = e

-- a run in which nothing went wrong is told as done
pub told_done : (nodes : ℕ) (given : Option Extension) (heard : List Heard) (m : Mission) (status : Status) (text : List ℕ) (t : IsSimTold nodes given heard m status text) → ((d : ℕ) → RoseAt heard d → ⊥) → ((b : Bound) → IsFailedBy t.history b → ⊥) → FindsEachPlan takes_all m nodes t.history → status ≡ Done
told_done nodes given heard m status text t sound kept finds =
    t.told ∙ ap status_at (is_completed takes_all m nodes t.history finds None given heard t.end t.run sound kept)

-- a device fault is told only where a device's faults rose
pub fault_rose : (nodes : ℕ) (given : Option Extension) (heard : List Heard) (m : Mission) (status : Status) (text : List ℕ) → IsSimTold nodes given heard m status text → status ≡ DeviceFault → (d : ℕ) × RoseAt heard d
fault_rose nodes given heard m status text t is = by_end t.end (sym t.told ∙ is) t.run.ends
  where
    by_end : (end : End) → status_at end ≡ DeviceFault → IsEnd m heard t.history t.run.attempts end → (d : ℕ) × RoseAt heard d
    by_end ended.completed e ends = absurd (cc)
    by_end ended.failed e ends = absurd (cc)
    by_end ended.broken e ends = (ends.1.0.0, ends.1.1.rose)
    by_end ended.no_plan e ends = absurd (cc)
    by_end (ended.budget path) e ends = absurd (cc)
