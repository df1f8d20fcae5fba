use Rattle.std.proofs.Common.{◌≡◌, ◌+◌, ◌<◌, ◌^◌, List, [], ◌∷◌, length, Some, None, refl, sym, ap, ◌∙◌, subst, arith}
use Rattle.std.specs.List.{cons_option}
use Rattle.hs_base.specs.declared.plan.Extension.{Extension}
use Rattle.hs_base.specs.Points.{count}
use Rattle.hs_machine.specs.declared.history.Entry.{Entry}
use Rattle.hs_machine.specs.State.{count_at, hands_over, plan_of}
use Rattle.base_laws.proofs.PointLemmas.{count-push}
use Rattle.run_tests.proofs.logs.troubled.Goals as goal

-- an entry that hands nothing over leaves the plan of those behind it, and one that does puts its extension before it
passes : (e : Entry) (h : List Entry) → hands_over e.deed ≡ None → plan_of (e ∷ h) ≡ plan_of h
passes e h none = ap (λ o. cons_option o (plan_of h)) none

hands : (e : Entry) (h : List Entry) (x : Extension) → hands_over e.deed ≡ Some x → plan_of (e ∷ h) ≡ x ∷ plan_of h
hands e h x some = ap (λ o. cons_option o (plan_of h)) some

-- a history in which the first and the fifth of seven entries hand a few tokens over
few : (a b c d e f g : Entry) (x y : Extension) → hands_over a.deed ≡ Some x → hands_over b.deed ≡ None → hands_over c.deed ≡ None → hands_over d.deed ≡ None
    → hands_over e.deed ≡ Some y → hands_over f.deed ≡ None → hands_over g.deed ≡ None → length x.tokens ≡ 6 → length y.tokens ≡ 2
    → count_at (a ∷ b ∷ c ∷ d ∷ e ∷ f ∷ g ∷ []) + 1 < 2 ^ 32
few a b c d e f g x y ha hb hc hd he hf hg six two =
    let last : plan_of (e ∷ f ∷ g ∷ []) ≡ y ∷ [] = hands e (f ∷ g ∷ []) y he ∙ ap (λ es. y ∷ es) (passes f (g ∷ []) hf ∙ passes g [] hg) in
    let rest : plan_of (b ∷ c ∷ d ∷ e ∷ f ∷ g ∷ []) ≡ y ∷ [] = passes b (c ∷ d ∷ e ∷ f ∷ g ∷ []) hb ∙ passes c (d ∷ e ∷ f ∷ g ∷ []) hc ∙ passes d (e ∷ f ∷ g ∷ []) hd ∙ last in
    let all : plan_of (a ∷ b ∷ c ∷ d ∷ e ∷ f ∷ g ∷ []) ≡ x ∷ y ∷ [] = hands a (b ∷ c ∷ d ∷ e ∷ f ∷ g ∷ []) x ha ∙ ap (λ es. x ∷ es) rest in
    let none : count [] ≡ 1 = refl in
    omega (arith, ap count all, count-push (x ∷ []) y, count-push [] x, none, six, two)

pub returns : goal.returns
returns c =
    subst (λ (items : List Entry). count_at items + 1 < 2 ^ 32) (sym c.in_ok-vec.ensures.items)
    (few c.handover-first.result c.tick.result c.entry.result c.entry-2.result c.handover-second.result c.tick-2.result c.entry-3.result c.in_ok-camera_extension.field-0 c.in_ok-fixing_extension.field-0
    (ap hands_over c.handover-first.ensures) (ap hands_over c.tick.ensures) (ap hands_over c.entry.ensures) (ap hands_over c.entry-2.ensures)
    (ap hands_over c.handover-second.ensures) (ap hands_over c.tick-2.ensures) (ap hands_over c.entry-3.ensures)
    (ap (λ (e : Extension). length e.tokens) c.in_ok-camera_extension.ensures) c.in_ok-fixing_extension.ensures)
