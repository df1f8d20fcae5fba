use Rattle.std.proofs.Common.{◌≡◌, ◌++◌, ap, sym, ◌∙◌}
use Rattle.std.specs.Prelude.{Some}
use Rattle.hs_texts.specs.PlanGrammar.{token_names}
use Rattle.plan_text.specs.SoFar.{variable_at, times_named, names_of_kinds}
use Rattle.plan_text.proofs.CountLemmas.{token_names-push}
use Rattle.plan_text.proofs.written_plan.WrittenPlan.with.Goals as goal

pub invariant_of-result : goal.invariant_of-result
invariant_of-result c =
    let es = c.self.inside.extensions in
    let named : token_names c.push.new.self ≡ token_names es ++ names_of_kinds c.as_slice-tokens.result.now =
    ap token_names c.in_ok-push.ensures.ok ∙ token_names-push es c.args.extension ∙ ap (λ ts. token_names es ++ names_of_kinds ts) (sym c.as_slice-tokens.ensures)
    in
    let counts = c.in_ok-count_all.ensures (token_names es) (λ name v k. c.self.invariant name v (ap (λ vs. variable_at vs name) (sym c.as_slice.ensures) ∙ k)) in
    λ name v k. counts name v (ap (λ vs. variable_at vs name) c.as_slice.ensures ∙ k) ∙ ap (λ ns. Some (times_named name ns)) (sym named)
