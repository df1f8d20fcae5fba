-- What each command makes of a good input.
use Rattle.std.proofs.Common.{◌≡◌, ℕ, suc, List, [], ◌∷◌, length, refl, sym, ap, ◌∙◌, subst, arith, inl, inr, Option, Some}
use Rattle.hs_texts.specs.declared.ast.Ast.{Ast}
use Rattle.hs_base.specs.declared.mission.Mission.{Mission}
use Rattle.hs_base.specs.declared.plan.Extension.{Extension}
use Rattle.hs_texts.specs.CanonicalText.{canonical}
use Rattle.hs_base.specs.Checked.{Checked}
use Rattle.hs_texts.specs.ClosingText.{checked_line}
use Rattle.hs_texts.specs.MissionSpelling.{IsMissionRefusal, IsRefusalOf}
use Rattle.plan_check.specs.Planned.{Planned as Plan}
use Rattle.simulation_laws.specs.Ended.{Heard}
use Rattle.sim_run.specs.Runs.{given_of}
use Rattle.text_laws.proofs.RefusalLemmas.{spelled_one, spelled_or_refused}
use Rattle.domain_check.proofs.RuleLemmas.{not_meant}
use Rattle.commands.specs.Inputs.{IsGiven, IsRefused}
use Rattle.commands.specs.Prints.{IsAccepted, Prints}
use Rattle.commands.specs.Checks.{IsFaulty, Judges, Checks}
use Rattle.commands.specs.Runs.{IsSimTold}
use Rattle.commands.specs.Sims.{HasOneHorizon, Runs, Sims}
use Rattle.commands.specs.declared.status.Status.{Status}
use Rattle.commands.specs.declared.status.Status.TheVariants.{Done, Usage, Refused, NoPlan, Budget, PlanFailed, ReadFault, WriteFault, NoMemory, DeviceFault, PlanRefused}
use Rattle.commands.proofs.GivenLemmas.{given_one, given_or_refused, given_or_alone, behind_or_refused}
use Rattle.commands.proofs.FrontLemmas.{in_front_or_refused}
use Rattle.commands.proofs.SoundLemmas.{checked_or_faulty}

accepted_or_refused : (bytes text : List ℕ) (a : Ast) → IsAccepted bytes a → IsRefused (IsRefusalOf bytes) text → ⊥
accepted_or_refused bytes text a h r = elim r.why [
  | inl k ↦ spelled_or_refused bytes a r.refusal h.spells k
  | inr k ↦ not_meant a r.refusal h.mission (subst (λ (b : Ast). IsMissionRefusal b r.refusal) (spelled_one bytes k.0 a k.1 h.spells) k.2) h.means
]

-- an accepted mission is printed
pub printed : (bytes text : List ℕ) (a : Ast) (status : Status) → IsAccepted bytes a → Prints bytes status text → (status ≡ Done) × (text ≡ canonical a)
printed bytes text a Done h p = (refl, p.is ∙ ap canonical (spelled_one bytes p.ast a p.accepted.spells h.spells))
printed bytes text a Refused h p = absurd (accepted_or_refused bytes text a h p)
printed bytes text a Usage h p = absurd p
printed bytes text a NoPlan h p = absurd p
printed bytes text a Budget h p = absurd p
printed bytes text a PlanFailed h p = absurd p
printed bytes text a ReadFault h p = absurd p
printed bytes text a DeviceFault h p = absurd p
printed bytes text a WriteFault h p = absurd p
printed bytes text a NoMemory h p = absurd p
printed bytes text a PlanRefused h p = absurd p

judged_sound : (m : Mission) (es : List Extension) (status : Status) (text : List ℕ) → Checked m es → Judges m es status text → (status ≡ Done) × (text ≡ checked_line (length es))
judged_sound m es Done text c j = (refl, j.line)
judged_sound m es PlanRefused text c j = absurd (checked_or_faulty m es text c j)
judged_sound m es Usage text c j = absurd j
judged_sound m es Refused text c j = absurd j
judged_sound m es NoPlan text c j = absurd j
judged_sound m es Budget text c j = absurd j
judged_sound m es PlanFailed text c j = absurd j
judged_sound m es ReadFault text c j = absurd j
judged_sound m es DeviceFault text c j = absurd j
judged_sound m es WriteFault text c j = absurd j
judged_sound m es NoMemory text c j = absurd j

-- a checked plan is sound
pub sound : (bytes text : List ℕ) (m : Mission) (es : List Extension) (status : Status) → IsGiven bytes m es → Checked m es → Checks bytes status text → (status ≡ Done) × (text ≡ checked_line (length es))
sound bytes text m es status g c (inl j) =
    let e = given_one bytes j.mission m j.plan es j.given g in
    judged_sound m es status text c (subst (λ (x : Mission). Judges x es status text) e.0 (subst (λ (l : List Extension). Judges j.mission l status text) e.1 j.judges))
sound bytes text m es status g c (inr r) = absurd (given_or_refused bytes m es r.1.refusal g r.1.why)

judged_faulty : (m : Mission) (es : List Extension) (status : Status) (text : List ℕ) → (Checked m es → ⊥) → Judges m es status text → (status ≡ PlanRefused) × IsFaulty m es text
judged_faulty m es Done text breaks j = absurd (breaks j.checked)
judged_faulty m es PlanRefused text breaks j = (refl, j)
judged_faulty m es Usage text breaks j = absurd j
judged_faulty m es Refused text breaks j = absurd j
judged_faulty m es NoPlan text breaks j = absurd j
judged_faulty m es Budget text breaks j = absurd j
judged_faulty m es PlanFailed text breaks j = absurd j
judged_faulty m es ReadFault text breaks j = absurd j
judged_faulty m es DeviceFault text breaks j = absurd j
judged_faulty m es WriteFault text breaks j = absurd j
judged_faulty m es NoMemory text breaks j = absurd j

-- of a plan that breaks a rule the first fault is told
pub faulted : (bytes text : List ℕ) (m : Mission) (es : List Extension) (status : Status) → IsGiven bytes m es → (Checked m es → ⊥) → Checks bytes status text → (status ≡ PlanRefused) × IsFaulty m es text
faulted bytes text m es status g breaks (inl j) =
    let e = given_one bytes j.mission m j.plan es j.given g in
    judged_faulty m es status text breaks (subst (λ (x : Mission). Judges x es status text) e.0 (subst (λ (l : List Extension). Judges j.mission l status text) e.1 j.judges))
faulted bytes text m es status g breaks (inr r) = absurd (given_or_refused bytes m es r.1.refusal g r.1.why)

-- a plan of one extension is that extension
same_one : (e x : Extension) → e ∷ [] ≡ x ∷ [] → e ≡ x
same_one e x h = cc

-- a mission is run by the plan that is given
pub ran_by_plan : (nodes : ℕ) (heard : List Heard) (m : Mission) (es : List Extension) (p : Plan) (status : Status) (text : List ℕ) → HasOneHorizon m → length es ≡ 1 → Checked m es → p.plan.extensions ≡ es → IsSimTold nodes (given_of (Some p)) heard m status text → Runs nodes heard m es status text
ran_by_plan nodes heard m [] p status text one size checked is t = absurd (let e : 0 ≡ 1 = size in cc)
ran_by_plan nodes heard m (e ∷ []) p status text one size checked is t =
    let given : given_of (Some p) ≡ Some e = ap (λ (l : List Extension). given_of (Some (record { mission = p.mission; plan = record { extensions = l } }))) is in
    inl (inl (record { one_horizon = one; extension = e; one = refl; checked = checked; told = subst (λ (o : Option Extension). IsSimTold nodes o heard m status text) given t }))
ran_by_plan nodes heard m (e ∷ x ∷ es) p status text one size checked is t = absurd (let more : suc (suc (length es)) ≡ 1 = size in omega (arith, more))

runs_checked : (nodes : ℕ) (heard : List Heard) (m : Mission) (e : Extension) (status : Status) (text : List ℕ) → HasOneHorizon m → Checked m (e ∷ []) → Runs nodes heard m (e ∷ []) status text → IsSimTold nodes (Some e) heard m status text
runs_checked nodes heard m e status text one c (inl (inl r)) = subst (λ (x : Extension). IsSimTold nodes (Some x) heard m status text) (sym (same_one e r.extension r.one)) r.told
runs_checked nodes heard m e status text one c (inl (inr r)) = elim r.cause [ inl k ↦ absurd (k.other refl) | inr k ↦ absurd (checked_or_faulty m (e ∷ []) text c k.1) ]
runs_checked nodes heard m e status text one c (inr u) = absurd (u.several one)

runs_faulty : (nodes : ℕ) (heard : List Heard) (m : Mission) (es : List Extension) (status : Status) (text : List ℕ) → HasOneHorizon m → length es ≡ 1 → (Checked m es → ⊥) → Runs nodes heard m es status text → (status ≡ PlanRefused) × IsFaulty m es text
runs_faulty nodes heard m es status text one single breaks (inl (inl r)) = absurd (breaks r.checked)
runs_faulty nodes heard m es status text one single breaks (inl (inr r)) = elim r.cause [ inl k ↦ absurd (k.other single) | inr k ↦ (r.refused, k.1) ]
runs_faulty nodes heard m es status text one single breaks (inr u) = absurd (u.several one)

-- what `sim` makes of a mission with a plan for it
run_comes : (nodes : ℕ) (heard : List Heard) (bytes text : List ℕ) (m : Mission) (es : List Extension) (status : Status) → IsGiven bytes m es → Sims nodes heard bytes status text → Runs nodes heard m es status text
run_comes nodes heard bytes text m es status g (inl (inl r)) =
    let e = given_one bytes r.mission m r.plan es r.given g in
    subst (λ (x : Mission). Runs nodes heard x es status text) e.0 (subst (λ (l : List Extension). Runs nodes heard r.mission l status text) e.1 r.runs)
run_comes nodes heard bytes text m es status g (inl (inr u)) = absurd (given_or_alone bytes m u.mission u.used es g u.front u.ends)
run_comes nodes heard bytes text m es status g (inr r) = elim r.1.why [
  | inl f ↦ absurd (in_front_or_refused bytes m g.used r.1.refusal g.mission f)
  | inr n ↦ absurd (behind_or_refused bytes m es r.1.refusal g n.behind)
]

-- a mission of one horizon is run by its checked plan
pub run_by_plan : (nodes : ℕ) (heard : List Heard) (bytes text : List ℕ) (m : Mission) (e : Extension) (status : Status) → IsGiven bytes m (e ∷ []) → HasOneHorizon m → Checked m (e ∷ []) → Sims nodes heard bytes status text → IsSimTold nodes (Some e) heard m status text
run_by_plan nodes heard bytes text m e status g one c s = runs_checked nodes heard m e status text one c (run_comes nodes heard bytes text m (e ∷ []) status g s)

-- a faulty plan for one is told its fault, and no run is made
pub unrun : (nodes : ℕ) (heard : List Heard) (bytes text : List ℕ) (m : Mission) (es : List Extension) (status : Status) → IsGiven bytes m es → HasOneHorizon m → length es ≡ 1 → (Checked m es → ⊥) → Sims nodes heard bytes status text → (status ≡ PlanRefused) × IsFaulty m es text
unrun nodes heard bytes text m es status g one single breaks s = runs_faulty nodes heard m es status text one single breaks (run_comes nodes heard bytes text m es status g s)
