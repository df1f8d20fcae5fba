use Rattle.std.proofs.Common.{subst, arith, pos, w64, FitsSigned, to_z, of_z, rules, ◌↔◌}
use Rattle.std.specs.Prelude.{◌<ℤ◌}
use Rattle.std.proofs.lemmas.Int.{ints, clamps, to_z-of_z}
use Rattle.hs_base.specs.Moments.{MayGoOn}
use Rattle.dispatcher.specs.State.{State, moment}
use Rattle.dispatcher.specs.Kept.{state_of}
use Rattle.dispatcher.proofs.KeptLemmas.{Leasts, later_goes_on, goes_on_later}
use Rattle.dispatcher.proofs.course.Course.limit.Goals as goal

pub least-requires : goal.least-requires
least-requires c = let r = c.self.invariant.state.reached in omega (arith, r.within 0 (pos 0) r.origin, c.self.invariant.waits.points)

pub returns : goal.returns
returns c =
    let d = c.self.inside in
    let k = c.self.invariant in
    let s = state_of d in
    let h = c.least_high.result in
    let u = c.least.result in
    let least : Leasts s k.state d.windows d.places.items d.until k.set k.places k.waits h u = record { h_bound = c.least_high.ensures.bound; h_among = c.least_high.ensures.reached; u_bound = c.least.ensures.bound; u_among = c.least.ensures.reached } in
    let forth = goes_on_later s k.state d.windows d.places.items d.until k.set k.places k.waits h u least in
    let back = later_goes_on s k.state d.windows d.places.items d.until k.set k.places k.waits h u least in
    let fit_h : FitsSigned w64 h = search rules in
    let fit_u : FitsSigned w64 u = search rules in
    let fit_r : FitsSigned w64 c.min.result = search rules in
    let is_h = to_z-of_z w64 h fit_h in
    let is_u = to_z-of_z w64 u fit_u in
    let is_r = to_z-of_z w64 c.min.result fit_r in
    let v = c.min.ensures.value in
    let low = c.min.ensures.self_bound in
    let both : (MayGoOn (moment s) ↔ (s.tick <ℤ to_z w64 (of_z w64 c.min.result))) = (λ m. let f = forth m in omega (arith, ints, clamps, f.0, f.1, v), λ m. back (omega (arith, ints, clamps, m, v)) (omega (arith, ints, clamps, m, v))) in
    subst (λ (z : State). MayGoOn (moment z) ↔ (z.tick <ℤ to_z w64 (of_z w64 c.min.result))) c.self.view_is both
