use Rattle.std.proofs.Common.{◌<◌, ◌≡◌, ℤ, ◌+ℤ◌, to_z, of_z, w64, arith, set}
use Rattle.std.proofs.lemmas.Int.{ints}
use Rattle.hs_base.specs.Schedule.{time_of}
use Rattle.stn_distance.specs.Causes.{bound_at}
use Rattle.stn_distance.specs.Rows.{room}
use Rattle.stn_distance.proofs.RowLemmas.{StepFacts-at, Reaches-lowered, room-set}
use Rattle.stn_distance.proofs.nearest.pass_on.Goals as goal
use Rattle.stn_distance.proofs.nearest.pass_on.Goals.{then-reached-row+in_ok-push, else-reached-row}

abbrev reach : ℤ → ℤ → ℤ
reach t m = to_z w64 (of_z w64 (to_z w64 (of_z w64 t) +ℤ to_z w64 (of_z w64 m)))

pub overflow_add-reached : goal.overflow_add-reached
overflow_add-reached c =
    let f = StepFacts-at c.args.count c.args.bounds.now c.args.source c.loop-i.row c.loop-i.i (omega arith) c.requires.source c.requires.range c.requires.sample c.loop-i.invariant.reaches in
    omega (arith, ints)

pub bounds-row-to : goal.bounds-row-to
bounds-row-to c =
    let f = StepFacts-at c.args.count c.args.bounds.now c.args.source c.loop-i.row c.loop-i.i (omega arith) c.requires.source c.requires.range c.requires.sample c.loop-i.invariant.reaches in
    let len = c.loop-i.invariant.reaches.row_len in omega arith

pub bounds-waiting-to : goal.bounds-waiting-to
bounds-waiting-to c =
    let f = StepFacts-at c.args.count c.args.bounds.now c.args.source c.loop-i.row c.loop-i.i (omega arith) c.requires.source c.requires.range c.requires.sample c.loop-i.invariant.reaches in
    let len = c.requires.waiting in omega arith

pub bounds-potentials-to : goal.bounds-potentials-to
bounds-potentials-to c =
    let f = StepFacts-at c.args.count c.args.bounds.now c.args.source c.loop-i.row c.loop-i.i (omega arith) c.requires.source c.requires.range c.requires.sample c.loop-i.invariant.reaches in
    let len = c.requires.potentials.size in omega arith

pub overflow_sub-reached : goal.overflow_sub-reached
overflow_sub-reached c =
    let f = StepFacts-at c.args.count c.args.bounds.now c.args.source c.loop-i.row c.loop-i.i (omega arith) c.requires.source c.requires.range c.requires.sample c.loop-i.invariant.reaches in
    let low = c.requires.potentials.low (bound_at c.args.bounds.now c.loop-i.i).to.0 f.to_in in
    let high = c.requires.potentials.high (bound_at c.args.bounds.now c.loop-i.i).to.0 f.to_in in
    omega (arith, ints)

pub loop-i-preserved : goal.loop-i-preserved
loop-i-preserved c =
    let h = c.loop-i.invariant.reaches in let len = h.row_len in let less = c.loop-i.invariant.measure in
    let bounds = c.args.bounds.now in let row = c.loop-i.row in
    let f = StepFacts-at c.args.count bounds c.args.source row c.loop-i.i (omega arith) c.requires.source c.requires.range c.requires.sample h in
    let b = bound_at bounds c.loop-i.i in
    let z = reach (time_of row b.from.0) b.most in
    let is : z ≡ time_of row b.from.0 +ℤ b.most = omega (arith, ints) in
    elim c.if-reached-row.branch [
      | then-reached-row+in_ok-push w ↦
          let t = w.if-reached-row.true in
          let drops : room (set row b.to.0 z) < room row = room-set row b.to.0 z (omega arith) (omega (arith, ints)) (omega (arith, ints)) in
          let longer = w.in_ok-push.ensures.len in
          rw (w.row-is, w.queue-is) (record {
            reaches = Reaches-lowered c.args.count bounds c.args.source row b z h f.has f.from_in f.to_in is (omega (arith, ints));
            measure = omega arith;
          })
      | else-reached-row w ↦
          rw (w.row-is, w.queue-is) (record { reaches = h; measure = less })
    ]
