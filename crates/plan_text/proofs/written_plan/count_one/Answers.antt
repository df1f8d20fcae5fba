use Rattle.std.proofs.Common.{◌∙◌, sym, ap}
use Rattle.std.specs.Prelude.{slice_get}
use Rattle.plan_text.proofs.CountLemmas.{counts_unknown, counts_none, counts_more}
use Rattle.plan_text.proofs.written_plan.count_one.Goals as goal

pub returns-in_default : goal.returns-in_default
returns-in_default c = λ names h. counts_unknown _ _ _ _ h (sym c.variable_at.ensures ∙ c.in_default.is)

pub returns-in_default-count_at : goal.returns-in_default-count_at
returns-in_default-count_at c = λ names h name v e.
    absurd (counts_none c.args.vars.now names c.args.counts.now.items c.args.name.now c.in-Some.v h (sym c.variable_at.ensures ∙ c.in-Some.is) (ap (λ xs. slice_get xs c.in-Some.v) (sym c.deref.ensures.value) ∙ sym c.count_at.ensures ∙ c.in_default-count_at.is))

pub returns : goal.returns
returns c = λ names h.
    counts_more c.args.vars.now names c.args.counts.now.items c.args.name.now c.in-Some.v c.in-Some-count_at.count c.in-Some-checked_add.more h (sym c.variable_at.ensures ∙ c.in-Some.is)
    (ap (λ xs. slice_get xs c.in-Some.v) (sym c.deref.ensures.value) ∙ sym c.count_at.ensures ∙ c.in-Some-count_at.is) c.in-Some-checked_add.ensures.1
