use Rattle.std.proofs.Common.{◌≡◌, ℤ, ◌-ℤ◌, to_z, of_z, w64, pos, set, get_or-set_same, get_or-set_other, arith, ◌∙◌, below_more}
use Rattle.std.proofs.lemmas.Int.{ints}
use Rattle.hs_base.specs.Schedule.{time_of}
use Rattle.stn_distance.proofs.search.from_origin.Goals as goal

pub loop-time-preserved : goal.loop-time-preserved
loop-time-preserved c =
    let i = c.loop-time.time-index in
    let h = c.loop-time.invariant in
    let z : ℤ = to_z w64 (of_z w64 (to_z w64 (of_z w64 (time_of c.loop-time.times i)) -ℤ to_z w64 (of_z w64 (time_of c.args.times.now 0)))) in
    let w = c.requires.floor i (omega arith) in let o = c.requires.floor 0 (omega arith) in
    let w0 = w.0 in let w1 = w.1 in let o0 = o.0 in let o1 = o.1 in let few = c.requires.few.1 in
    let was = h.rest i (omega arith) in
    let own = get_or-set_same c.loop-time.times i z (pos 0) (omega arith) in
    let moved : z ≡ time_of c.args.times.now i -ℤ time_of c.args.times.now 0 = omega (arith, ints) in
    record {
      moved = below_more (λ v. time_of (set c.loop-time.times i z) v ≡ time_of c.args.times.now v -ℤ time_of c.args.times.now 0) i
          (λ v l. get_or-set_other c.loop-time.times i v z (pos 0) (λ e. omega arith) ∙ h.moved v l) (own ∙ moved);
      origin_is = h.origin_is;
      rest = λ v l. get_or-set_other c.loop-time.times i v z (pos 0) (λ e. omega arith) ∙ h.rest v (omega arith);
    }
