use Rattle.std.proofs.Common.{◌≡◌, ◌∙◌, sym, ap, subst, length, w64, to_z, of_z, rules, List}
use Rattle.std.proofs.lemmas.Int.{to_z-of_z}
use Rattle.dispatcher.specs.declared.places.Place.{Place}
use Rattle.dispatcher.specs.State.{State, points}
use Rattle.dispatcher.specs.Kept.{state_of}
use Rattle.dispatcher.specs.Marks.{AreMarked, AreMarksOf, AreTimed, leader_time}
use Rattle.dispatcher.proofs.InsideLemmas.{tick_fits}
use Rattle.dispatcher.proofs.HoldingLemmas.{are_timed, marks_of}
use Rattle.dispatcher.proofs.course.Course.mark.Goals as goal

pub mark-requires-clause-timed : goal.mark-requires-clause-timed
mark-requires-clause-timed c =
    let d = c.self.inside in
    let k = c.self.invariant in
    let s = state_of d in
    let long : length c.args.marks.now ≡ points s = c.requires ∙ ap points (sym c.self.view_is) in
    subst (λ z. AreTimed z d.windows c.as_slice-2.result.now) (sym long)
    (subst (λ (z : List Place). AreTimed (points s) d.windows z) (sym c.as_slice-2.ensures.value) (are_timed s k.state d.places.items k.places d.windows k.set))

pub returns : goal.returns
returns c =
    let d = c.self.inside in
    let k = c.self.invariant in
    let s = state_of d in
    let marks = c.mark.new.marks in
    let same : length marks ≡ length c.args.marks.now = search rules in
    let long : length marks ≡ points s = same ∙ c.requires ∙ ap points (sym c.self.view_is) in
    let tick : to_z w64 (of_z w64 d.tick) ≡ d.tick = to_z-of_z w64 d.tick (tick_fits d k) in
    let is : AreMarked d.net.edges (leader_time d.windows d.places.items) d.tick marks = rw (c.as_slice.ensures, c.as_slice-2.ensures.value, tick) at c.mark.ensures in
    subst (λ (z : State). AreMarksOf z marks) c.self.view_is (marks_of s k.state d.places.items k.places d.windows k.set marks long is)
