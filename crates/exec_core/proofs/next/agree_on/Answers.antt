use Rattle.std.proofs.Common.{◌≡◌, ◌<◌, take, length, get_or, sym, subst, ◌∙◌, arith, inl, inr}
use Rattle.std.proofs.lemmas.List.{get_or_default}
use Rattle.std.proofs.lemmas.Bool.{cases_lt}
use Rattle.hs_base.specs.declared.plan.Extension.{Extension}
use Rattle.hs_machine.specs.Machine.{AgreeOn}
use Rattle.exec_core.proofs.NextLemmas.{agree_at, agree_left, agree_right}
use Rattle.exec_core.proofs.next.agree_on.Goals as goal

pub returns-then-not-same : goal.returns-then-not-same
returns-then-not-same c =
    let d : Extension = c.index-newest-i.result in
    let e : Extension = c.index-offered-i.result in
    let i = c.loop-i.i in
    let under : i < length c.args.offered.now = omega arith in
    let a : get_or c.args.newest.now i d ≡ d = sym c.index-newest-i.is in
    let b : get_or c.args.offered.now i d ≡ e = get_or_default c.args.offered.now i d e under ∙ sym c.index-offered-i.is in
    agree_at c.args.newest.now c.args.offered.now i d c.loop-i.invariant (omega arith) under
    (λ (same : get_or c.args.newest.now i d ≡ get_or c.args.offered.now i d). let alike : d ≡ e = sym a ∙ same ∙ b in let t = c.same.ensures.1 alike in let f = c.if-not-same.true in cc)

pub returns : goal.returns
returns c =
    let n = c.min-shared.result in
    let all : c.loop-i.i ≡ n = omega arith in
    let whole = subst (λ k. take k c.args.newest.now ≡ take k c.args.offered.now) all c.loop-i.invariant in
    elim (cases_lt (length c.args.offered.now) (length c.args.newest.now)) [
      | inl less ↦
          let is : n ≡ length c.args.offered.now = omega arith in
          subst (AgreeOn c.args.newest.now c.args.offered.now) (sym is) (agree_right c.args.newest.now c.args.offered.now (subst (λ k. take k c.args.newest.now ≡ take k c.args.offered.now) is whole) (omega arith))
      | inr more ↦
          let is : n ≡ length c.args.newest.now = omega arith in
          subst (AgreeOn c.args.newest.now c.args.offered.now) (sym is) (agree_left c.args.newest.now c.args.offered.now (subst (λ k. take k c.args.newest.now ≡ take k c.args.offered.now) is whole) (omega arith))
    ]
