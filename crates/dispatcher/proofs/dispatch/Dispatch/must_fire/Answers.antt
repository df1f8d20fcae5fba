use Rattle.std.proofs.Common.{subst}
use Rattle.hs_base.specs.Moments.{MayGoOn}
use Rattle.dispatcher.specs.State.{State, IsLawful, moment}
use Rattle.dispatcher.proofs.HoldingLemmas.{forced_stops}
use Rattle.dispatcher.proofs.dispatch.Dispatch.must_fire.Goals as goal

pub returns-then-may_tick-clause-due : goal.returns-then-may_tick-clause-due
returns-then-may_tick-clause-due c = λ x due.
    let may : MayGoOn (moment c.args.self.now) = subst (λ (z : State). MayGoOn (moment z)) c.self.view_is (c.may_tick.ensures.may.0 c.if-may_tick.true) in
    forced_stops c.args.self.now (subst IsLawful c.self.view_is c.may_tick.ensures.state) x (record { below = due.below; none = due.none }) due.forced may
