use Rattle.std.proofs.Common.{refl, ap, sym, ◌∙◌}
use Rattle.std.specs.Prelude.{slice_get, count_by, ◌++◌, ◌∷◌, []}
use Rattle.std.specs.Str.{bytes_eq}
use Rattle.hs_texts.specs.declared.written.WrittenKind.{WrittenKind}
use Rattle.hs_texts.specs.declared.written.WrittenPoint.TheVariants.{End}
use Rattle.hs_texts.specs.PlanGrammar.{has_point}
use Rattle.plan_text.specs.SoFar.{SoFar, variable_at}
use Rattle.plan_text.proofs.CountLemmas.{unknown_passes, counted_with, lt_front, lt_behind}
use Rattle.plan_text.proofs.written_plan.WrittenPlan.has_token_with.Goals as goal

pub returns-in_default : goal.returns-in_default
returns-in_default c = λ e k.
    let t = c.args.token.now in
    unknown_passes c.self.inside.mission.now (c.self.inside.extensions ++ e ∷ []) t (ap (λ vs. variable_at vs t.sv) (sym c.as_slice.ensures) ∙ sym c.variable_at.ensures ∙ c.in_default.is)
    ∙ ap (λ (s : SoFar). has_point s.mission (s.extensions ++ e ∷ []) (End t)) c.self.view_is

pub returns-else-place-count : goal.returns-else-place-count
returns-else-place-count c = λ e k.
    let t = c.args.token.now in
    lt_behind t.place c.in-Some-count_at.count c.count_named.result c.if-place-count.false
    ∙ counted_with c.self.inside.mission.now c.self.inside.extensions e c.self.inside.counts.items t c.in-Some.v c.in-Some-count_at.count c.count_named.result
    (ap (λ vs. variable_at vs t.sv) (sym c.as_slice.ensures) ∙ sym c.variable_at.ensures ∙ c.in-Some.is) c.self.invariant
    (ap (λ xs. slice_get xs c.in-Some.v) (sym c.deref.ensures.value) ∙ sym c.count_at.ensures ∙ c.in-Some-count_at.is)
    (c.count_named.ensures ∙ ap (count_by (λ (x : WrittenKind). bytes_eq t.sv x.sv)) (sym k))
    ∙ ap (λ (s : SoFar). has_point s.mission (s.extensions ++ e ∷ []) (End t)) c.self.view_is

pub returns-then-place-count : goal.returns-then-place-count
returns-then-place-count c = λ e k.
    let t = c.args.token.now in
    let n = count_by (λ (x : WrittenKind). bytes_eq t.sv x.sv) e.body.tokens in
    lt_front t.place c.in-Some-count_at.count n c.if-place-count.true
    ∙ counted_with c.self.inside.mission.now c.self.inside.extensions e c.self.inside.counts.items t c.in-Some.v c.in-Some-count_at.count n
    (ap (λ vs. variable_at vs t.sv) (sym c.as_slice.ensures) ∙ sym c.variable_at.ensures ∙ c.in-Some.is) c.self.invariant
    (ap (λ xs. slice_get xs c.in-Some.v) (sym c.deref.ensures.value) ∙ sym c.count_at.ensures ∙ c.in-Some-count_at.is) refl
    ∙ ap (λ (s : SoFar). has_point s.mission (s.extensions ++ e ∷ []) (End t)) c.self.view_is
