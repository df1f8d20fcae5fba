use Rattle.std.proofs.Common.{◌≡◌, sym, subst, arith, pos, w64, FitsSigned, to_z, of_z}
use Rattle.std.specs.Prelude.{◌+ℤ◌}
use Rattle.std.proofs.lemmas.Int.{ints, to_z-of_z}
use Rattle.hs_base.specs.Moments.{MayGoOn}
use Rattle.dispatcher.specs.State.{State, IsOpen, moment}
use Rattle.dispatcher.specs.Kept.{state_of}
use Rattle.dispatcher.proofs.KeptLemmas.{ticked_lawful, tick_within}
use Rattle.dispatcher.proofs.course.Course.advance.Goals as goal

pub invariant_of-self : goal.invariant_of-self
invariant_of-self c =
    let d = c.self.inside in
    let k = c.self.invariant in
    let may : MayGoOn (moment (state_of d)) = subst (λ (z : State). MayGoOn (moment z)) (sym c.self.view_is) c.requires.may in
    let is_open : IsOpen (state_of d) c.requires.open.0 = subst (λ s. IsOpen s c.requires.open.0) (sym c.self.view_is) c.requires.open.1 in
    let zero = k.state.reached.late 0 (pos 0) k.state.reached.origin in
    let more = tick_within (state_of d) k.state may c.requires.open.0 is_open in
    let f : FitsSigned w64 d.tick = omega (arith, ints, zero, more) in
    let g : FitsSigned w64 (d.tick +ℤ pos 1) = omega (arith, ints, zero, more) in
    let same : to_z w64 (of_z w64 (to_z w64 (of_z w64 d.tick) +ℤ pos 1)) ≡ d.tick +ℤ pos 1 = rw (to_z-of_z w64 d.tick f) (to_z-of_z w64 (d.tick +ℤ pos 1) g) in
    record {
      state = rw same (ticked_lawful (state_of d) k.state may c.requires.open.0 is_open);
      set = k.set;
      places = k.places;
      known = k.known;
      waits = k.waits;
      small = k.small;
    }
