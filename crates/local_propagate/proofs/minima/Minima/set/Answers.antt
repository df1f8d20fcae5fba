use Rattle.std.proofs.Common.{◌≡◌, ◌∙◌, ◌+◌, ap, arith, w64, drop, length, to_z, of_z}
use Rattle.std.specs.Vec.{with_item}
use Rattle.std.proofs.lemmas.Int.{to_z-of_z}
use Rattle.std.proofs.lemmas.List.{drop-set-add, with_items_is}
use Rattle.local_propagate.proofs.minima.Minima.set.Goals as goal

pub returns : goal.returns
returns c =
    let m = c.self.inside in
    let view : drop m.size m.tree.items ≡ c.args.self.now = c.self.view_is in
    let long = ap length c.as_mut_slice.ensures.value in
    ap (drop m.size) (with_items_is (with_item m.tree (m.size + c.args.i) (to_z w64 (of_z w64 c.args.to))) c.climb.new.tree (omega (arith, long, c.climb.ensures.tournament.places, c.self.invariant.places, m.tree.ok.0)))
    ∙ c.climb.ensures.numbers ∙ ap (drop m.size) c.as_mut_slice.ensures.value ∙ rw (to_z-of_z w64 c.args.to c.ranges.to, ← view) (drop-set-add m.size m.tree.items c.args.i c.args.to)
