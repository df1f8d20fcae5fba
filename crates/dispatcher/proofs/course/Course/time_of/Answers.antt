use Rattle.std.proofs.Common.{◌≡◌, ◌∙◌, ◌<◌, ap, sym, subst, arith, length, get_or}
use Rattle.hs_base.specs.declared.net.Group.{Group}
use Rattle.hs_base.specs.Dispatch.{group_time}
use Rattle.local_propagate.specs.Windows.{time_of}
use Rattle.dispatcher.specs.State.{State, time_in}
use Rattle.dispatcher.proofs.InsideLemmas.{leader_below, number_read, time_read}
use Rattle.dispatcher.proofs.course.Course.time_of.Goals as goal

pub index-requires-2 : goal.index-requires-2
index-requires-2 c =
    let d = c.self.inside in
    let k = c.self.invariant in
    let ii : c.args.group < length d.net.groups = subst (λ (s : State). c.args.group < length s.net.groups) (sym c.self.view_is) c.requires in
    omega (arith, leader_below d k c.args.group ii c.index.result.now c.index.ensures, k.places.points, d.places.ok.0)

pub time-requires : goal.time-requires
time-requires c =
    let d = c.self.inside in
    let k = c.self.invariant in
    let ii : c.args.group < length d.net.groups = subst (λ (s : State). c.args.group < length s.net.groups) (sym c.self.view_is) c.requires in
    omega (arith, number_read d k c.args.group ii c.index.result.now c.index-2.result.now c.index.ensures c.index-2.ensures, ii, k.set.are.groups)

pub returns : goal.returns
returns c =
    let d = c.self.inside in
    let k = c.self.invariant in
    let i = c.args.group in
    let ii : i < length d.net.groups = subst (λ (s : State). c.args.group < length s.net.groups) (sym c.self.view_is) c.requires in
    let number = number_read d k i ii c.index.result.now c.index-2.result.now c.index.ensures c.index-2.ensures in
    subst (λ (s : State). (g : Group) → c.time.result ≡ group_time (time_in s) (get_or s.net.groups i g)) c.self.view_is (λ g. c.time.ensures ∙ ap (time_of d.windows) number ∙ time_read d k i ii g)
