use Rattle.std.proofs.Common.{◌<◌, ◌≡◌, ℤ, ◌+ℤ◌, to_z, of_z, w64, arith, set}
use Rattle.std.proofs.lemmas.Int.{ints}
use Rattle.hs_base.specs.Schedule.{time_of}
use Rattle.stn_distance.specs.Causes.{bound_at}
use Rattle.stn_distance.specs.Rows.{room}
use Rattle.stn_distance.proofs.RowLemmas.{BackFacts-at, Returns-lowered, room-set}
use Rattle.stn_distance.proofs.column.lower_column.Goals as goal
use Rattle.stn_distance.proofs.column.lower_column.Goals.{then-reached-column, else-reached-column}

abbrev reach : ℤ → ℤ → ℤ
reach t m = to_z w64 (of_z w64 (to_z w64 (of_z w64 t) +ℤ to_z w64 (of_z w64 m)))

pub overflow_add-reached : goal.overflow_add-reached
overflow_add-reached c =
    let f = BackFacts-at c.args.count c.args.bounds.now c.loop-bound.column c.loop-bound.bound-index (omega arith) c.requires.some c.requires.range c.requires.sample c.loop-bound.invariant.returns in
    omega (arith, ints)

pub bounds-column-from : goal.bounds-column-from
bounds-column-from c =
    let f = BackFacts-at c.args.count c.args.bounds.now c.loop-bound.column c.loop-bound.bound-index (omega arith) c.requires.some c.requires.range c.requires.sample c.loop-bound.invariant.returns in
    let len = c.loop-bound.invariant.returns.column_len in omega arith

pub loop-bound-preserved : goal.loop-bound-preserved
loop-bound-preserved c =
    let h = c.loop-bound.invariant.returns in let len = h.column_len in let less = c.loop-bound.invariant.less in
    let bounds = c.args.bounds.now in let column = c.loop-bound.column in
    let f = BackFacts-at c.args.count bounds column c.loop-bound.bound-index (omega arith) c.requires.some c.requires.range c.requires.sample h in
    let b = bound_at bounds c.loop-bound.bound-index in
    let z = reach (time_of column b.to.0) b.most in
    let is : z ≡ time_of column b.to.0 +ℤ b.most = omega (arith, ints) in
    elim c.if-reached-column.branch [
      | then-reached-column w ↦
          let t = w.if-reached-column.true in
          let drops : room (set column b.from.0 z) < room column = room-set column b.from.0 z (omega arith) (omega (arith, ints)) (omega (arith, ints)) in
          rw (w.column-is, w.lowered-is) (record {
            returns = Returns-lowered c.args.count bounds column b z h f.has f.from_in f.to_in is (omega (arith, ints));
            less = omega arith;
            lowered = omega arith;
          })
      | else-reached-column w ↦ rw (w.column-is, w.lowered-is) (record { returns = h; less = less; lowered = c.loop-bound.invariant.lowered })
    ]
