use Rattle.std.proofs.Common.{◌≡◌, pos, ◌+ℤ◌, ◌-ℤ◌, to_z, of_z, w64, arith}
use Rattle.std.proofs.lemmas.Int.{ints}
use Rattle.std.proofs.lemmas.List.{get_or_read}
use Rattle.hs_base.specs.Schedule.{time_of}
use Rattle.stn_distance.proofs.folding.fold_bound.Goals as goal

pub overflow_sub-result : goal.overflow_sub-result
overflow_sub-result c =
    let r = c.requires.range in let f = r.from_below in let t = r.to_below in let o = c.requires.offsets in let size = o.size in
    let offsets = c.args.folding.now.offsets.items in let b = c.args.bound.now in
    let from = get_or_read offsets b.from.0 _ (omega arith) c.index-3.ensures (pos 0) in
    let to = get_or_read offsets b.to.0 _ (omega arith) c.index-4.ensures (pos 0) in
    let f0 = o.low b.from.0 f in let f1 = o.high b.from.0 f in let t0 = o.low b.to.0 t in let t1 = o.high b.to.0 t in
    omega (arith, ints)

pub returns : goal.returns
returns c =
    let r = c.requires.range in let f = r.from_below in let t = r.to_below in let o = c.requires.offsets in let size = o.size in
    let offsets = c.args.folding.now.offsets.items in let places = c.args.folding.now.places.items in let b = c.args.bound.now in
    let len = c.requires.places in
    let row_from = get_or_read places b.from.0 _ (omega arith) c.index.ensures 0 in
    let row_to = get_or_read places b.to.0 _ (omega arith) c.index-2.ensures 0 in
    let from = get_or_read offsets b.from.0 _ (omega arith) c.index-3.ensures (pos 0) in
    let to = get_or_read offsets b.to.0 _ (omega arith) c.index-4.ensures (pos 0) in
    let f0 = o.low b.from.0 f in let f1 = o.high b.from.0 f in let t0 = o.low b.to.0 t in let t1 = o.high b.to.0 t in
    let most : to_z w64 (of_z w64 (to_z w64 (of_z w64 (to_z w64 (of_z w64 b.most) +ℤ to_z w64 (of_z w64 c.index-3.result.now))) -ℤ to_z w64 (of_z w64 c.index-4.result.now)))
    ≡ (b.most +ℤ time_of offsets b.from.0) -ℤ time_of offsets b.to.0 = omega (arith, ints) in
    cc
