use Rattle.std.proofs.Common.{◌≡◌, ◌<◌, length, pos, ◌+ℤ◌, ◌-ℤ◌, to_z, of_z, w64, arith, sym, ap, ◌∙◌}
use Rattle.std.proofs.lemmas.Int.{ints}
use Rattle.std.proofs.lemmas.List.{get_or_read}
use Rattle.stn_distance.specs.Rows.{items_of}
use Rattle.stn_distance.specs.Folding.{number_at}
use Rattle.stn_distance.specs.Distances.{Distances, weight, folded_weight}
use Rattle.stn_distance.proofs.DistLemmas.{row-read, row_in, apart_in, apart_is, Tight-low, Tight-high}
use Rattle.stn_distance.proofs.dist.Dist.at.Goals as goal

pub index-row-requires : goal.index-row-requires
index-row-requires c =
    let d = c.self.inside in let h = c.self.invariant in let places = d.places.items in let offsets = d.offsets.items in let rows = d.rows.items in
    let lp : c.args.p.0 < length places = rw (← c.self.view_is) at c.requires.p in let lq : c.args.q.0 < length places = rw (← c.self.view_is) at c.requires.q in
    let held = d.rows.ok.0 in
    let inside = row_in (length places) d.bounds.items places offsets rows c.args.p.0 c.index.result.now h lp c.index.ensures in omega arith

pub index-apart-requires : goal.index-apart-requires
index-apart-requires c =
    let d = c.self.inside in let h = c.self.invariant in let places = d.places.items in let offsets = d.offsets.items in let rows = d.rows.items in
    let lp : c.args.p.0 < length places = rw (← c.self.view_is) at c.requires.p in let lq : c.args.q.0 < length places = rw (← c.self.view_is) at c.requires.q in
    let held = c.index-row.result.now.ok.0 in
    let inside = apart_in (length places) d.bounds.items places offsets rows c.args.p.0 c.args.q.0 c.index.result.now c.index-2.result.now c.index-row.result.now h lp lq c.index.ensures c.index-row.ensures c.index-2.ensures in omega arith

pub overflow_add-result : goal.overflow_add-result
overflow_add-result c =
    let d = c.self.inside in let h = c.self.invariant in let places = d.places.items in let offsets = d.offsets.items in let rows = d.rows.items in
    let lp : c.args.p.0 < length places = rw (← c.self.view_is) at c.requires.p in let lq : c.args.q.0 < length places = rw (← c.self.view_is) at c.requires.q in
    let apart = apart_is (length places) d.bounds.items places offsets rows c.args.p.0 c.args.q.0 c.index.result.now c.index-2.result.now c.index-row.result.now c.index-apart.result.now h lp lq c.index.ensures c.index-row.ensures c.index-2.ensures c.index-apart.ensures in
    let low = h.low (number_at places c.args.p.0) (number_at places c.args.q.0) (h.place_in c.args.p.0 lp) (h.place_in c.args.q.0 lq) in
    let high = h.high (number_at places c.args.p.0) (number_at places c.args.q.0) (h.place_in c.args.p.0 lp) (h.place_in c.args.q.0 lq) in
    let olen = h.offsets_len in
    let off_q = get_or_read offsets c.args.q.0 _ (omega arith) c.index-3.ensures (pos 0) in
    let q0 = h.offset_low c.args.q.0 lq in let q1 = h.offset_high c.args.q.0 lq in
    omega (arith, ints)

pub overflow_sub-result : goal.overflow_sub-result
overflow_sub-result c =
    let d = c.self.inside in let h = c.self.invariant in let places = d.places.items in let offsets = d.offsets.items in let rows = d.rows.items in
    let lp : c.args.p.0 < length places = rw (← c.self.view_is) at c.requires.p in let lq : c.args.q.0 < length places = rw (← c.self.view_is) at c.requires.q in
    let apart = apart_is (length places) d.bounds.items places offsets rows c.args.p.0 c.args.q.0 c.index.result.now c.index-2.result.now c.index-row.result.now c.index-apart.result.now h lp lq c.index.ensures c.index-row.ensures c.index-2.ensures c.index-apart.ensures in
    let low = h.low (number_at places c.args.p.0) (number_at places c.args.q.0) (h.place_in c.args.p.0 lp) (h.place_in c.args.q.0 lq) in
    let high = h.high (number_at places c.args.p.0) (number_at places c.args.q.0) (h.place_in c.args.p.0 lp) (h.place_in c.args.q.0 lq) in
    let olen = h.offsets_len in
    let off_q = get_or_read offsets c.args.q.0 _ (omega arith) c.index-3.ensures (pos 0) in
    let q0 = h.offset_low c.args.q.0 lq in let q1 = h.offset_high c.args.q.0 lq in
    let off_p = get_or_read offsets c.args.p.0 _ (omega arith) c.index-4.ensures (pos 0) in
    let p0 = h.offset_low c.args.p.0 lp in let p1 = h.offset_high c.args.p.0 lp in
    omega (arith, ints)

pub returns-clause-weight : goal.returns-clause-weight
returns-clause-weight c =
    let d = c.self.inside in let h = c.self.invariant in let places = d.places.items in let offsets = d.offsets.items in let rows = d.rows.items in
    let lp : c.args.p.0 < length places = rw (← c.self.view_is) at c.requires.p in let lq : c.args.q.0 < length places = rw (← c.self.view_is) at c.requires.q in
    let apart = apart_is (length places) d.bounds.items places offsets rows c.args.p.0 c.args.q.0 c.index.result.now c.index-2.result.now c.index-row.result.now c.index-apart.result.now h lp lq c.index.ensures c.index-row.ensures c.index-2.ensures c.index-apart.ensures in
    let low = h.low (number_at places c.args.p.0) (number_at places c.args.q.0) (h.place_in c.args.p.0 lp) (h.place_in c.args.q.0 lq) in
    let high = h.high (number_at places c.args.p.0) (number_at places c.args.q.0) (h.place_in c.args.p.0 lp) (h.place_in c.args.q.0 lq) in
    let olen = h.offsets_len in
    let off_q = get_or_read offsets c.args.q.0 _ (omega arith) c.index-3.ensures (pos 0) in
    let q0 = h.offset_low c.args.q.0 lq in let q1 = h.offset_high c.args.q.0 lq in
    let off_p = get_or_read offsets c.args.p.0 _ (omega arith) c.index-4.ensures (pos 0) in
    let p0 = h.offset_low c.args.p.0 lp in let p1 = h.offset_high c.args.p.0 lp in
    let is : to_z w64 (of_z w64 (to_z w64 (of_z w64 (to_z w64 (of_z w64 c.index-apart.result.now) +ℤ to_z w64 (of_z w64 c.index-3.result.now))) -ℤ to_z w64 (of_z w64 c.index-4.result.now)))
    ≡ folded_weight places offsets (items_of rows) c.args.p.0 c.args.q.0 = omega (arith, ints) in
    is ∙ sym (row-read (length places) (folded_weight places offsets (items_of rows)) c.args.p.0 c.args.q.0 lp lq) ∙ ap (λ (v : Distances). weight v c.args.p.0 c.args.q.0) c.self.view_is

pub returns-clause-tight : goal.returns-clause-tight
returns-clause-tight c =
    let d = c.self.inside in let h = c.self.invariant in let places = d.places.items in let offsets = d.offsets.items in let rows = d.rows.items in
    let lp : c.args.p.0 < length places = rw (← c.self.view_is) at c.requires.p in let lq : c.args.q.0 < length places = rw (← c.self.view_is) at c.requires.q in
    let apart = apart_is (length places) d.bounds.items places offsets rows c.args.p.0 c.args.q.0 c.index.result.now c.index-2.result.now c.index-row.result.now c.index-apart.result.now h lp lq c.index.ensures c.index-row.ensures c.index-2.ensures c.index-apart.ensures in
    let low = h.low (number_at places c.args.p.0) (number_at places c.args.q.0) (h.place_in c.args.p.0 lp) (h.place_in c.args.q.0 lq) in
    let high = h.high (number_at places c.args.p.0) (number_at places c.args.q.0) (h.place_in c.args.p.0 lp) (h.place_in c.args.q.0 lq) in
    let olen = h.offsets_len in
    let off_q = get_or_read offsets c.args.q.0 _ (omega arith) c.index-3.ensures (pos 0) in
    let q0 = h.offset_low c.args.q.0 lq in let q1 = h.offset_high c.args.q.0 lq in
    let off_p = get_or_read offsets c.args.p.0 _ (omega arith) c.index-4.ensures (pos 0) in
    let p0 = h.offset_low c.args.p.0 lp in let p1 = h.offset_high c.args.p.0 lp in
    let is : to_z w64 (of_z w64 (to_z w64 (of_z w64 (to_z w64 (of_z w64 c.index-apart.result.now) +ℤ to_z w64 (of_z w64 c.index-3.result.now))) -ℤ to_z w64 (of_z w64 c.index-4.result.now)))
    ≡ folded_weight places offsets (items_of rows) c.args.p.0 c.args.q.0 = omega (arith, ints) in
    rw (is, ← c.self.view_is) (h.tight c.args.p.0 c.args.q.0 lp lq)

pub returns-clause-near : goal.returns-clause-near
returns-clause-near c =
    let d = c.self.inside in let h = c.self.invariant in let places = d.places.items in let offsets = d.offsets.items in let rows = d.rows.items in
    let lp : c.args.p.0 < length places = rw (← c.self.view_is) at c.requires.p in let lq : c.args.q.0 < length places = rw (← c.self.view_is) at c.requires.q in
    let apart = apart_is (length places) d.bounds.items places offsets rows c.args.p.0 c.args.q.0 c.index.result.now c.index-2.result.now c.index-row.result.now c.index-apart.result.now h lp lq c.index.ensures c.index-row.ensures c.index-2.ensures c.index-apart.ensures in
    let low = h.low (number_at places c.args.p.0) (number_at places c.args.q.0) (h.place_in c.args.p.0 lp) (h.place_in c.args.q.0 lq) in
    let high = h.high (number_at places c.args.p.0) (number_at places c.args.q.0) (h.place_in c.args.p.0 lp) (h.place_in c.args.q.0 lq) in
    let olen = h.offsets_len in
    let off_q = get_or_read offsets c.args.q.0 _ (omega arith) c.index-3.ensures (pos 0) in
    let q0 = h.offset_low c.args.q.0 lq in let q1 = h.offset_high c.args.q.0 lq in
    let off_p = get_or_read offsets c.args.p.0 _ (omega arith) c.index-4.ensures (pos 0) in
    let p0 = h.offset_low c.args.p.0 lp in let p1 = h.offset_high c.args.p.0 lp in
    let is : to_z w64 (of_z w64 (to_z w64 (of_z w64 (to_z w64 (of_z w64 c.index-apart.result.now) +ℤ to_z w64 (of_z w64 c.index-3.result.now))) -ℤ to_z w64 (of_z w64 c.index-4.result.now)))
    ≡ folded_weight places offsets (items_of rows) c.args.p.0 c.args.q.0 = omega (arith, ints) in
    rw is (
      Tight-low (length places) d.bounds.items places offsets (items_of rows) c.args.p.0 c.args.q.0 h lp lq,
      Tight-high (length places) d.bounds.items places offsets (items_of rows) c.args.p.0 c.args.q.0 h lp lq,
    )
