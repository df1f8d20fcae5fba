use Rattle.std.proofs.Common.{◌≡◌, sym, subst, ◌∙◌, inl, inr}
use Rattle.hs_base.specs.Moments.{MayGoOn, MustFire, IsLate, IsInTime}
use Rattle.dispatcher.specs.State.{State, moment}
use Rattle.exec_core.proofs.decide.decide_tick.Goals as goal

pub returns-in-Some-late-clause-reply : goal.returns-in-Some-late-clause-reply
returns-in-Some-late-clause-reply c =
    let same : c.must_fire.new.self ≡ c.args.dispatch.now = c.must_fire.ensures.same ∙ c.may_tick.ensures.same in
    let never : IsInTime (moment c.must_fire.new.self) → ⊥ = λ t. let e = c.in-Some-late.ensures.none.1 t in cc in (
      λ may. never (inl (subst (λ (s : State). MayGoOn (moment s)) (sym same) may)),
      λ x must. never (inr (x, subst (λ (s : State). MustFire (moment s) x) (sym same) must)),
      subst (λ (s : State). IsLate (moment s) c.in-Some-late.bound) same c.in-Some-late.ensures.late,
    )
