use Rattle.std.proofs.Common.{◌≡◌, ◌∙◌, sym, subst, w64, FitsSigned, get_or, rules, Some, None}
use Rattle.std.proofs.lemmas.Int.{to_z-of_z}
use Rattle.hs_base.specs.declared.net.Group.{Group}
use Rattle.hs_base.specs.Dispatch.{group_time}
use Rattle.dispatcher.specs.State.{State, IsLawful, IsOpen, time_in}
use Rattle.dispatcher.specs.Places.{StandsAt}
use Rattle.dispatcher.specs.Kept.{state_of}
use Rattle.dispatcher.proofs.InsideLemmas.{stands_read, time_read}
use Rattle.dispatcher.proofs.FiringLemmas.{answer_decides}
use Rattle.dispatcher.proofs.course.Course.may_fire.Goals as goal

pub fire_of_set-requires-clause-place : goal.fire_of_set-requires-clause-place
fire_of_set-requires-clause-place c =
    let is_open : IsOpen (state_of c.self.inside) c.args.p.0 = subst (λ (s : State). IsOpen s c.args.p.0) (sym c.self.view_is) c.requires in
    subst (λ (s : State). StandsAt s.net c.args.p.0 c.index-place.result.now) c.self.view_is (stands_read c.self.inside c.self.invariant c.args.p.0 c.index-place.result.now is_open.below c.index-place.ensures)

pub fire_of_set-requires-clause-set : goal.fire_of_set-requires-clause-set
fire_of_set-requires-clause-set c =
    let d = c.self.inside in
    let p = c.index-place.result.now in
    let is_open : IsOpen (state_of d) c.args.p.0 = subst (λ (s : State). IsOpen s c.args.p.0) (sym c.self.view_is) c.requires in
    let stand = stands_read d c.self.invariant c.args.p.0 p is_open.below c.index-place.ensures in
    let fits : FitsSigned w64 c.in-Some.at = search rules in
    rw (to_z-of_z w64 c.in-Some.at fits) (subst (λ (s : State). (g : Group) → group_time (time_in s) (get_or s.net.groups p.group g) ≡ Some c.in-Some.at) c.self.view_is
    (λ g. sym (time_read d c.self.invariant p.group stand.within g) ∙ sym c.time.ensures ∙ c.in-Some.is))

pub fire_of_unset-requires-clause-place : goal.fire_of_unset-requires-clause-place
fire_of_unset-requires-clause-place c =
    let is_open : IsOpen (state_of c.self.inside) c.args.p.0 = subst (λ (s : State). IsOpen s c.args.p.0) (sym c.self.view_is) c.requires in
    subst (λ (s : State). StandsAt s.net c.args.p.0 c.index-place.result.now) c.self.view_is (stands_read c.self.inside c.self.invariant c.args.p.0 c.index-place.result.now is_open.below c.index-place.ensures)

pub fire_of_unset-requires-clause-unset : goal.fire_of_unset-requires-clause-unset
fire_of_unset-requires-clause-unset c =
    let d = c.self.inside in
    let p = c.index-place.result.now in
    let is_open : IsOpen (state_of d) c.args.p.0 = subst (λ (s : State). IsOpen s c.args.p.0) (sym c.self.view_is) c.requires in
    let stand = stands_read d c.self.invariant c.args.p.0 p is_open.below c.index-place.ensures in
    subst (λ (s : State). (g : Group) → group_time (time_in s) (get_or s.net.groups p.group g) ≡ None) c.self.view_is
    (λ g. sym (time_read d c.self.invariant p.group stand.within g) ∙ sym c.time.ensures ∙ c.in-None.is)

pub returns-in-Some-clause-may : goal.returns-in-Some-clause-may
returns-in-Some-clause-may c = answer_decides c.args.self.now (subst IsLawful c.self.view_is c.self.invariant.state) c.args.p.0 c.requires.below c.fire_of_set.result c.fire_of_set.ensures

pub returns-in-None-clause-may : goal.returns-in-None-clause-may
returns-in-None-clause-may c = answer_decides c.args.self.now (subst IsLawful c.self.view_is c.self.invariant.state) c.args.p.0 c.requires.below c.fire_of_unset.result c.fire_of_unset.ensures
