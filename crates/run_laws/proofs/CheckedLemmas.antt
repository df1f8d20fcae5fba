-- The plan of a run is checked, so what fits a run makes legal timelines.
use Rattle.std.proofs.Common.{◌≡◌, ◌≢◌, ℕ, List, [], ◌∷◌, ◌++◌, length, Option, Some, None, refl, sym, ap, ◌∙◌, subst}
use Rattle.hs_base.specs.declared.plan.Extension.{Extension}
use Rattle.hs_base.specs.declared.net.Net.{Net}
use Rattle.hs_base.specs.declared.mission.Mission.{Mission}
use Rattle.hs_machine.specs.declared.history.Deed.{Deed}
use Rattle.hs_machine.specs.declared.history.Deed.TheVariants.{Handover}
use Rattle.hs_machine.specs.declared.history.Entry.{Entry}
use Rattle.hs_base.specs.Schedule.{Schedule}
use Rattle.hs_base.specs.Timelines.{Legal, timelines}
use Rattle.hs_base.specs.Checked.{Checked}
use Rattle.hs_machine.specs.State.{plan_of, hands_over, FitsState}
use Rattle.hs_machine.specs.Machine.{Event, handover, Reply, done, HandoverReply, Replies, IsLeftBy}
use Rattle.hs_machine.specs.Run.{MayAdd, Run}
use Rattle.base_laws.proofs.ListLemmas.{snoc_induction}
use Rattle.plan_laws.proofs.LegalLemmas.{legal}
use Rattle.run_laws.proofs.StateLemmas.{plan_kept, plan_handed}
use Rattle.run_laws.proofs.RunLemmas.{event_reply, offered_base, run_fits}

-- a handover's plan is the one before it with its extension
pub handed_plan : (m : Mission) (h : List Entry) (e : Extension) (n : Net) (event : Event) (reply : Reply) → Replies m h event reply → (left : IsLeftBy m (Handover e n) event reply) → left.0 ≡ plan_of h
handed_plan m h e n event reply lawful left =
    let here : Replies m h (handover m (left.0 ++ e ∷ [])) done = rw (left.1, left.2) at lawful in
    let r : HandoverReply m h m (left.0 ++ e ∷ []) done = event_reply m h (handover m (left.0 ++ e ∷ [])) here in
    offered_base left.0 (plan_of h) e r.1.1

-- what an entry leaves is checked, where there is a plan
checked_push : (m : Mission) (h : List Entry) (by : ℕ) (d : Deed) (event : Event) (reply : Reply) → Replies m h event reply → IsLeftBy m d event reply → (plan_of h ≢ [] → Checked m (plan_of h)) → plan_of (h ++ record { by = by; deed = d } ∷ []) ≢ [] → Checked m (plan_of (h ++ record { by = by; deed = d } ∷ []))
checked_push m h by (Handover e n) event reply lawful left had some =
    let x : Entry = record { by = by; deed = Handover e n } in
    let base = handed_plan m h e n event reply lawful left in
    subst (Checked m) (ap (λ l. l ++ e ∷ []) base ∙ sym (plan_handed h x e refl)) left.4
checked_push m h by d event reply lawful left had some = kept (hands_over d) refl
  where
    kept : (o : Option Extension) → hands_over d ≡ o → Checked m (plan_of (h ++ record { by = by; deed = d } ∷ []))
    kept None none =
        let plan = plan_kept h (record { by = by; deed = d }) none in
        subst (Checked m) (sym plan) (had (λ (e : plan_of h ≡ []). some (plan ∙ e)))
    kept (Some e) is = absurd (cc)

-- the plan of a run is checked
pub run_checked : (m : Mission) (h : List Entry) → Run m h → plan_of h ≢ [] → Checked m (plan_of h)
run_checked m h run = snoc_induction (λ h. plan_of h ≢ [] → Checked m (plan_of h)) (MayAdd m) (λ before e a had. checked_push m before e.by e.deed a.event a.reply a.answers.lawful a.answers.leaves.1 had) [] h (λ some. absurd (some refl)) run.entries

-- each schedule that fits a run makes legal timelines
pub fit_legal : (m : Mission) (h : List Entry) (s : Schedule) → Run m h → plan_of h ≢ [] → FitsState m h s → Legal m (length (plan_of h)) (timelines m (plan_of h) s)
fit_legal m h s run some fits = legal m (plan_of h) s (run_checked m h run some) some fits.meets

-- and some schedule does
pub some_legal : (m : Mission) (h : List Entry) → Run m h → plan_of h ≢ [] → (s : Schedule) × FitsState m h s × Legal m (length (plan_of h)) (timelines m (plan_of h) s)
some_legal m h run some =
    let f = run_fits m h run some in
    (f.s, f.fits, fit_legal m h f.s run some f.fits)
