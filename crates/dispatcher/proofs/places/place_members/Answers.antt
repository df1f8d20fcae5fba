use Rattle.std.proofs.Common.{sym, arith, pos, get_or, w64, FitsSigned}
use Rattle.std.proofs.lemmas.Int.{ints, to_z-of_z}
use Rattle.std.proofs.lemmas.List.Sums.{fold_more}
use Rattle.std.proofs.lemmas.List.Elements.{All-more}
use Rattle.hs_base.specs.declared.net.Member.{Member}
use Rattle.dispatcher.specs.Places.{IsSmall, placed}
use Rattle.dispatcher.proofs.places.place_members.Goals as goal

pub loop-k-preserved : goal.loop-k-preserved
loop-k-preserved c =
    let d : Member = record { point = record { 0 = 0 }; offset = pos 0 } in
    let ms = c.args.members.now in
    let k = c.loop-k.k in
    let near = c.requires k d c.loop-k-test.true in
    let fits : FitsSigned w64 (get_or ms k d).offset = omega (arith, ints, near.low, near.high) in
    record {
      places = rw (to_z-of_z w64 (get_or ms k d).offset fits, c.loop-k.invariant.places) (sym (fold_more (placed c.args.number) c.args.places.now ms k d c.loop-k-test.true));
      small = All-more IsSmall ms k d c.loop-k-test.true c.loop-k.invariant.small (omega (arith, c.loop-k-test.element_fits));
    }
