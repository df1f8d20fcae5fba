use Rattle.std.proofs.Common.{◌≡◌, ◌∙◌, ◌<◌, ℕ, ap, sym, subst, arith, true, false, w64, FitsSigned, to_z, of_z, Some, None, rules, tests}
use Rattle.std.specs.Prelude.{◌-ℤ◌}
use Rattle.std.proofs.lemmas.Int.{ints, to_z-of_z}
use Rattle.std.proofs.lemmas.List.{get_or_read}
use Rattle.hs_base.specs.Schedule.{bound}
use Rattle.hs_base.specs.Moments.{IsLate}
use Rattle.dispatcher.specs.State.{State, IsLawful, is_observed, points, time_in, moment}
use Rattle.dispatcher.specs.Kept.{state_of}
use Rattle.dispatcher.proofs.KeptLemmas.{none_from}
use Rattle.dispatcher.proofs.InsideLemmas.{tick_fits}
use Rattle.dispatcher.proofs.HoldingLemmas.{executed_within, held_late}
use Rattle.dispatcher.proofs.course.Course.late_at.Goals as goal

pub overflow_sub-result : goal.overflow_sub-result
overflow_sub-result c =
    let d = c.self.inside in
    let k = c.self.invariant in
    let s = state_of d in
    let q : ℕ = c.in-Some.from.0 in
    let h = c.in-Some.ensures in
    let done : time_in s q ≡ Some h.at = ap (λ (z : State). time_in z q) c.self.view_is ∙ h.executed in
    let iq = k.state.reached.within q h.at done in
    let read : time_in s q ≡ Some c.in-Some-index.at = sym (get_or_read d.times.items q c.index-in-Some.result.now iq c.index-in-Some.ensures None) ∙ c.in-Some-index.is in
    let r = executed_within s k.state q c.in-Some-index.at read in
    let zero = k.state.reached.late 0 _ k.state.reached.origin in
    let f : FitsSigned w64 c.in-Some-index.at = omega (arith, ints, r.low, r.high) in
    rw (to_z-of_z w64 d.tick (tick_fits d k), to_z-of_z w64 c.in-Some-index.at f) (omega (arith, ints, r.low, r.high, zero, k.state.last))

pub returns-in-Some-index : goal.returns-in-Some-index
returns-in-Some-index c =
    let d = c.self.inside in
    let k = c.self.invariant in
    let s = state_of d in
    let x : ℕ = c.args.x in
    let ix : x < points s = subst (λ (z : State). x < points z) (sym c.self.view_is) c.requires.x in
    let q : ℕ = c.in-Some.from.0 in
    let h = c.in-Some.ensures in
    let done : time_in s q ≡ Some h.at = ap (λ (z : State). time_in z q) c.self.view_is ∙ h.executed in
    let iq = k.state.reached.within q h.at done in
    let read : time_in s q ≡ Some c.in-Some-index.at = sym (get_or_read d.times.items q c.index-in-Some.result.now iq c.index-in-Some.ensures None) ∙ c.in-Some-index.is in
    let one : Some h.at ≡ Some c.in-Some-index.at = sym done ∙ read in
    let same_at : h.at ≡ c.in-Some-index.at = cc in
    let r = executed_within s k.state q c.in-Some-index.at read in
    let zero = k.state.reached.late 0 _ k.state.reached.origin in
    let f : FitsSigned w64 c.in-Some-index.at = omega (arith, ints, r.low, r.high) in
    let g : FitsSigned w64 (d.tick -ℤ c.in-Some-index.at) = omega (arith, ints, r.low, r.high, zero, k.state.last) in
    let seen : c.index.result.now ≡ true = first_of (search rules, search (rules, tests), cc) in
    let watched : is_observed s x ≡ true = sym (get_or_read d.observed x c.index.result.now (omega (arith, ix, k.state.observed)) c.index.ensures false) ∙ seen in
    let none : time_in s x ≡ None = sym (get_or_read d.times.items x c.index-else-not-index.result.now ix c.index-else-not-index.ensures None) ∙ none_from c.index-else-not-index.result.now (sym c.if-is_some.ensures) in
    let there = c.args.self.now in
    let late = held_late there (subst IsLawful c.self.view_is k.state) x q h (ap (λ (z : State). is_observed z x) (sym c.self.view_is) ∙ watched) (ap (λ (z : State). time_in z x) (sym c.self.view_is) ∙ none) in
    let most : there.tick -ℤ h.at ≡ to_z w64 (of_z w64 (to_z w64 (of_z w64 d.tick) -ℤ to_z w64 (of_z w64 c.in-Some-index.at))) =
    ap (λ z. there.tick -ℤ z) same_at ∙ ap (λ (z : State). z.tick -ℤ c.in-Some-index.at) (sym c.self.view_is)
    ∙ sym (rw (to_z-of_z w64 d.tick (tick_fits d k), to_z-of_z w64 c.in-Some-index.at f) (to_z-of_z w64 (d.tick -ℤ c.in-Some-index.at) g)) in
    subst (λ z. IsLate (moment there) (bound q x z)) most late
