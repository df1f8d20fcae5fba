use Rattle.std.proofs.Common.{◌≡◌, ◌∙◌, ◌<◌, sym, subst, length, get_or, None}
use Rattle.hs_base.specs.declared.net.Group.{Group}
use Rattle.hs_base.specs.Dispatch.{group_time}
use Rattle.dispatcher.specs.State.{State, points, time_in}
use Rattle.dispatcher.specs.Places.{StandsAt}
use Rattle.dispatcher.proofs.InsideLemmas.{stands_read, time_read}
use Rattle.dispatcher.proofs.course.Course.holder.Goals as goal

pub holder_in_set-requires-clause-place : goal.holder_in_set-requires-clause-place
holder_in_set-requires-clause-place c =
    let ix : c.args.x < length c.self.inside.times.items = subst (λ (s : State). c.args.x < points s) (sym c.self.view_is) c.requires.open.below in
    subst (λ (s : State). StandsAt s.net c.args.x c.index-place.result.now) c.self.view_is (stands_read c.self.inside c.self.invariant c.args.x c.index-place.result.now ix c.index-place.ensures)

pub holder_by_mark-requires-clause-place : goal.holder_by_mark-requires-clause-place
holder_by_mark-requires-clause-place c =
    let ix : c.args.x < length c.self.inside.times.items = subst (λ (s : State). c.args.x < points s) (sym c.self.view_is) c.requires.open.below in
    subst (λ (s : State). StandsAt s.net c.args.x c.index-place.result.now) c.self.view_is (stands_read c.self.inside c.self.invariant c.args.x c.index-place.result.now ix c.index-place.ensures)

pub holder_by_mark-requires-clause-unset : goal.holder_by_mark-requires-clause-unset
holder_by_mark-requires-clause-unset c =
    let d = c.self.inside in
    let p = c.index-place.result.now in
    let ix : c.args.x < length d.times.items = subst (λ (s : State). c.args.x < points s) (sym c.self.view_is) c.requires.open.below in
    let stand = stands_read d c.self.invariant c.args.x p ix c.index-place.ensures in
    subst (λ (s : State). (g : Group) → group_time (time_in s) (get_or s.net.groups p.group g) ≡ None) c.self.view_is
    (λ g. sym (time_read d c.self.invariant p.group stand.within g) ∙ sym c.time.ensures ∙ c.in-None.is)
