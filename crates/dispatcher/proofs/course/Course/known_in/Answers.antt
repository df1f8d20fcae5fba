use Rattle.std.proofs.Common.{◌<◌, sym, subst, arith, length, w64, FitsSigned, rules}
use Rattle.std.specs.Prelude.{ℤ}
use Rattle.std.proofs.lemmas.Int.{to_z-of_z}
use Rattle.hs_base.specs.declared.net.Member.{Member}
use Rattle.dispatcher.specs.State.{State}
use Rattle.dispatcher.specs.Edges.{IsSetAt, IsKnownIn}
use Rattle.dispatcher.specs.Kept.{state_of}
use Rattle.dispatcher.proofs.InsideLemmas.{known_read, known_below}
use Rattle.dispatcher.proofs.course.Course.known_in.Goals as goal

pub index-requires : goal.index-requires
index-requires c =
    let d = c.self.inside in
    let k = c.self.invariant in
    let ii : c.args.group < length d.net.groups = subst (λ (s : State). c.args.group < length s.net.groups) (sym c.self.view_is) c.requires.group in
    let is_set : IsSetAt (state_of d) c.args.group c.requires.set.0 = subst (λ (s : State). IsSetAt s c.args.group c.requires.set.0) (sym c.self.view_is) c.requires.set.1 in
    omega (arith, known_below d k c.args.group ii c.index-point.result.now c.requires.set.0 c.index-point.ensures is_set, k.places.points, d.places.ok.0)

pub returns : goal.returns
returns c =
    let d = c.self.inside in
    let k = c.self.invariant in
    let i = c.args.group in
    let ii : i < length d.net.groups = subst (λ (s : State). c.args.group < length s.net.groups) (sym c.self.view_is) c.requires.group in
    let fits : FitsSigned w64 c.index.result.now.offset = search rules in
    let m : Member = record { point = c.index-point.result.now; offset = c.index.result.now.offset } in
    rw (to_z-of_z w64 c.index.result.now.offset fits) (subst (λ (s : State). (t : ℤ) → IsSetAt s i t → IsKnownIn s i t m) c.self.view_is (λ t is_set. known_read d k i ii c.index-point.result.now c.index.result.now t c.index-point.ensures c.index.ensures is_set))
