use Rattle.std.proofs.Common.{◌≡◌, ◌++◌, List, ◌∙◌, ap, subst, Option}
use Rattle.std.specs.Prelude.{IfNone, IfSome}
use Rattle.hs_base.specs.declared.mission.Mission.{Mission}
use Rattle.hs_base.specs.declared.net.Bound.{Bound}
use Rattle.hs_base.specs.declared.plan.Extension.{Extension}
use Rattle.hs_machine.specs.declared.history.Entry.{Entry}
use Rattle.hs_machine.specs.State.{plan_of}
use Rattle.hs_texts.specs.ClosingText.{device_fault_line, failed_line}
use Rattle.journal_text.specs.Reasons.{why_text}
use Rattle.run_reasons.specs.Reasons.{IsReason}
use Rattle.simulation_laws.specs.Ended.{IsFailedBy}
use Rattle.simulation_laws.specs.Simulated.{all}
use Rattle.commands.specs.Runs.{IsClosed}
use Rattle.commands.specs.declared.status.Status.{Status}
use Rattle.commands.specs.declared.status.Status.TheVariants.{DeviceFault, PlanFailed}
use Rattle.commands.proofs.EndLemmas.{both, closed_broken, closed_failed, unplanned_kept}
use Rattle.commands.proofs.telling.push_failure.Goals as goal

pub returns-in_default : goal.returns-in_default
returns-in_default c nodes given heard r =
    let m = c.args.exec.now.mission in
    let h = c.args.exec.now.history in
    let head = c.args.text.now in
    let text = c.push_fault.new.text in
    let kept = unplanned_kept m h c.requires.run c.in_default.ensures in
    both c.push_fault.result (text ≡ head ++ device_fault_line) (λ (s : Status). s ≡ DeviceFault) (λ (s : Status). IsClosed heard m h all head s text) c.push_fault.ensures.line c.push_fault.ensures.status
    (λ s line told. closed_broken m nodes given heard h head text s r c.requires.failed kept told line)

pub returns-in-Some-2 : goal.returns-in-Some-2
returns-in-Some-2 c nodes given heard r =
    let m = c.args.exec.now.mission in
    let h = c.args.exec.now.history in
    let head = c.args.text.now in
    let text = c.push_why.new.text in
    let plan = c.in-Some.plan.now in
    let chain = c.in-Some-2.chain in
    let same : plan.mission ≡ m = c.in-Some.ensures.0 in
    let es : plan.plan.extensions ≡ plan_of h = c.in-Some.ensures.1 in
    let shown = c.as_slice.result.now in
    let reason : IsReason m h chain = subst (λ (n : Mission). IsReason n h chain) same (subst (λ (o : Option (List Bound)). IfSome o (IsReason plan.mission h)) c.in-Some-2.is (subst (λ (l : List Entry). IfSome c.in_ok-chain.field-0 (IsReason plan.mission l)) c.history.ensures c.in_ok-chain.ensures.chain)) in
    both c.push_why.result (text ≡ head ++ why_text plan.mission plan.plan.extensions shown ++ failed_line) (λ (s : Status). s ≡ PlanFailed) (λ (s : Status). IsClosed heard m h all head s text) c.push_why.ensures.lines c.push_why.ensures.status
    (λ s line told. closed_failed m nodes given heard h head text s chain reason told
    (line ∙ ap (λ (l : List Bound). head ++ why_text plan.mission plan.plan.extensions l ++ failed_line) c.as_slice.ensures ∙ ap (λ (n : Mission). head ++ why_text n plan.plan.extensions chain ++ failed_line) same ∙ ap (λ (l : List Extension). head ++ why_text m l chain ++ failed_line) es))

pub returns-in-None : goal.returns-in-None
returns-in-None c nodes given heard r =
    let m = c.args.exec.now.mission in
    let h = c.args.exec.now.history in
    let head = c.args.text.now in
    let text = c.push_fault-in-None.new.text in
    both c.push_fault-in-None.result (text ≡ head ++ device_fault_line) (λ (s : Status). s ≡ DeviceFault) (λ (s : Status). IsClosed heard m h all head s text) c.push_fault-in-None.ensures.line c.push_fault-in-None.ensures.status
    (λ s line told. closed_broken m nodes given heard h head text s r c.requires.failed (subst (λ (o : Option (List Bound)). IfNone o ((b : Bound) → IsFailedBy h b → ⊥)) c.in-None.is (subst (λ (l : List Entry). IfNone c.in_ok-chain.field-0 ((b : Bound) → IsFailedBy l b → ⊥)) c.history.ensures c.in_ok-chain.ensures.none)) told line)
