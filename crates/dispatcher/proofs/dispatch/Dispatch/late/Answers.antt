use Rattle.std.proofs.Common.{◌↔◌, sym, subst, inr, Option, refl}
use Rattle.std.specs.Prelude.{IsNone}
use Rattle.hs_base.specs.declared.net.Bound.{Bound}
use Rattle.hs_base.specs.Moments.{IsInTime}
use Rattle.dispatcher.specs.State.{State, moment}
use Rattle.dispatcher.proofs.HoldingLemmas.{late_answers}
use Rattle.dispatcher.proofs.dispatch.Dispatch.late.Goals.{in-Some, in-None}
use Rattle.dispatcher.proofs.dispatch.Dispatch.late.Goals as goal

pub returns-clause-none : goal.returns-clause-none
returns-clause-none c =
    let s = c.self.inside.course in
    subst (λ (z : State). IsNone c.match-must_fire.result ↔ IsInTime (moment z)) c.self.view_is (elim c.match-must_fire.branch [
      | in-Some w ↦ subst (λ (r : Option Bound). IsNone r ↔ IsInTime (moment s)) (sym w.result-is) (λ _. inr (w.in-Some.field-0.0, w.in-Some.ensures), λ _. refl)
      | in-None w ↦ subst (λ (r : Option Bound). IsNone r ↔ IsInTime (moment s)) (sym w.result-is) (late_answers s c.may_tick.ensures.state w.late.result (λ may. let f = c.may_tick.ensures.may.1 may in let g = c.if-may_tick.false in cc) w.in-None.ensures w.late.ensures)
    ])
