use Rattle.std.proofs.Common.{ap, sym, ◌∙◌}
use Rattle.std.specs.Prelude.{slice_get}
use Rattle.hs_texts.specs.declared.written.WrittenPoint.TheVariants.{End}
use Rattle.hs_texts.specs.PlanGrammar.{has_point}
use Rattle.plan_text.specs.SoFar.{SoFar, variable_at}
use Rattle.plan_text.proofs.CountLemmas.{unknown_passes, counted_point, counted_there}
use Rattle.plan_text.proofs.written_plan.WrittenPlan.has_token.Goals as goal

pub returns-in_default : goal.returns-in_default
returns-in_default c =
    let t = c.args.token.now in
    unknown_passes c.self.inside.mission.now c.self.inside.extensions t (ap (λ vs. variable_at vs t.sv) (sym c.as_slice.ensures) ∙ sym c.variable_at.ensures ∙ c.in_default.is)
    ∙ ap (λ (s : SoFar). has_point s.mission s.extensions (End t)) c.self.view_is

pub returns-in-Some-count_at : goal.returns-in-Some-count_at
returns-in-Some-count_at c =
    let t = c.args.token.now in
    counted_point c.self.inside.mission.now c.self.inside.extensions c.self.inside.counts.items t c.in-Some.v c.in-Some-count_at.count
    (ap (λ vs. variable_at vs t.sv) (sym c.as_slice.ensures) ∙ sym c.variable_at.ensures ∙ c.in-Some.is) c.self.invariant
    (ap (λ xs. slice_get xs c.in-Some.v) (sym c.deref.ensures.value) ∙ sym c.count_at.ensures ∙ c.in-Some-count_at.is)
    ∙ ap (λ (s : SoFar). has_point s.mission s.extensions (End t)) c.self.view_is

pub returns-in-None : goal.returns-in-None
returns-in-None c =
    let t = c.args.token.now in
    absurd (counted_there c.self.inside.mission.now c.self.inside.extensions c.self.inside.counts.items t.sv c.in-Some.v
    (ap (λ vs. variable_at vs t.sv) (sym c.as_slice.ensures) ∙ sym c.variable_at.ensures ∙ c.in-Some.is) c.self.invariant
    (ap (λ xs. slice_get xs c.in-Some.v) (sym c.deref.ensures.value) ∙ sym c.count_at.ensures ∙ c.in-None.is))
