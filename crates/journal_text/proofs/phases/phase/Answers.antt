use Rattle.std.proofs.Common.{◌≡◌, false, cond, ap, sym, ◌∙◌}
use Rattle.hs_machine.specs.declared.history.Phase.TheVariants.{Running, Ended}
use Rattle.hs_machine.specs.State.{has_failed}
use Rattle.journal_text.proofs.PhaseLemmas.{phase-with_plan}
use Rattle.journal_text.proofs.phases.phase.Goals as goal

pub returns-in-Some : goal.returns-in-Some
returns-in-Some c =
    let unfailed : has_failed c.args.history.now ≡ false = sym c.if-has_failure.ensures in
    let phase = phase-with_plan c.args.history.now c.in-Some.horizon unfailed (sym c.requires ∙ c.in-Some.is) in
    ap (λ b. cond b Ended Running) c.if-is_executed.ensures ∙ sym phase

pub returns-in-Some-2 : goal.returns-in-Some-2
returns-in-Some-2 c =
    let unfailed : has_failed c.args.history.now ≡ false = sym c.if-has_failure.ensures in
    let phase = phase-with_plan c.args.history.now c.in-Some.horizon unfailed (sym c.requires ∙ c.in-Some.is) in
    ap (λ b. cond b Ended Running) c.if-is_executed.ensures ∙ sym phase
