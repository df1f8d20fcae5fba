use Rattle.std.proofs.Common.{◌≡◌, ◌<◌, ◌^◌, List, [], ◌∷◌, length, Some, None, refl, sym, ap, ◌∙◌, subst, arith}
use Rattle.std.specs.List.{cons_option}
use Rattle.hs_base.specs.declared.plan.Extension.{Extension}
use Rattle.hs_base.specs.Points.{count}
use Rattle.hs_machine.specs.declared.history.Entry.{Entry}
use Rattle.hs_machine.specs.State.{count_at, hands_over, plan_of}
use Rattle.base_laws.proofs.PointLemmas.{count-push}
use Rattle.log_tests.proofs.entries.fired.Goals as goal

-- the first of four entries hands a few tokens over
few : (a b c d : Entry) (x : Extension) → hands_over a.deed ≡ Some x → hands_over b.deed ≡ None → hands_over c.deed ≡ None → hands_over d.deed ≡ None → length x.tokens ≡ 6 → count_at (a ∷ b ∷ c ∷ d ∷ []) < 2 ^ 32
few a b c d x ha hb hc hd six =
    let all : plan_of (a ∷ b ∷ c ∷ d ∷ []) ≡ x ∷ [] =
    ap (λ o. cons_option o (plan_of (b ∷ c ∷ d ∷ []))) ha ∙ ap (λ es. x ∷ es) (ap (λ o. cons_option o (plan_of (c ∷ d ∷ []))) hb ∙ ap (λ o. cons_option o (plan_of (d ∷ []))) hc ∙ ap (λ o. cons_option o []) hd) in
    let none : count [] ≡ 1 = refl in
    omega (arith, ap count all, count-push [] x, none, six)

pub returns : goal.returns
returns c =
    subst (λ (items : List Entry). count_at items < 2 ^ 32) (sym c.in_ok-vec.ensures.items)
    (few c.in_ok-first.first c.entry.result c.entry-2.result c.entry-3.result c.in_ok-camera_extension.field-0
    c.in_ok-first.ensures (ap hands_over c.entry.ensures) (ap hands_over c.entry-2.ensures) (ap hands_over c.entry-3.ensures)
    (ap (λ (e : Extension). length e.tokens) c.in_ok-camera_extension.ensures))
