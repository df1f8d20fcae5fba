use Rattle.std.proofs.Common.{Bool, true, false, ◌<◌, ◌≡◌, ℤ, ◌+ℤ◌, to_z, of_z, w64, arith, set, below_more}
use Rattle.std.specs.Bool.{OnTrue, OnFalse}
use Rattle.std.proofs.lemmas.Int.{ints}
use Rattle.std.proofs.lemmas.List.Elements.{All-from_get_or}
use Rattle.hs_base.specs.Schedule.{time_of, Holds}
use Rattle.stn_distance.specs.Causes.{bound_at, no_bound}
use Rattle.stn_distance.specs.Rows.{room}
use Rattle.stn_distance.proofs.RowLemmas.{StepFacts-at, Reaches-lowered, room-set}
use Rattle.stn_distance.proofs.rows.lower_row.Goals as goal
use Rattle.stn_distance.proofs.rows.lower_row.Goals.{then-reached-row, else-reached-row}

abbrev reach : ℤ → ℤ → ℤ
reach t m = to_z w64 (of_z w64 (to_z w64 (of_z w64 t) +ℤ to_z w64 (of_z w64 m)))

OnFalse-weaker : (b : Bool) (P Q : Type 0) → (P → Q) → OnFalse b P → OnFalse b Q
OnFalse-weaker true P Q f h = h
OnFalse-weaker false P Q f h = f h

OnTrue-from : (b : Bool) (P : Type 0) → P → OnTrue b P
OnTrue-from true P h = h
OnTrue-from false P h = tt

pub overflow_add-reached : goal.overflow_add-reached
overflow_add-reached c =
    let f = StepFacts-at c.args.count c.args.bounds.now c.args.source c.loop-bound.row c.loop-bound.bound-index (omega arith) c.requires.source c.requires.range c.requires.sample c.loop-bound.invariant.reaches in
    omega (arith, ints)

pub bounds-row-to : goal.bounds-row-to
bounds-row-to c =
    let f = StepFacts-at c.args.count c.args.bounds.now c.args.source c.loop-bound.row c.loop-bound.bound-index (omega arith) c.requires.source c.requires.range c.requires.sample c.loop-bound.invariant.reaches in
    let len = c.loop-bound.invariant.reaches.row_len in omega arith

pub loop-bound-preserved : goal.loop-bound-preserved
loop-bound-preserved c =
    let h = c.loop-bound.invariant.reaches in let len = h.row_len in let less = c.loop-bound.invariant.less in
    let i = c.loop-bound.bound-index in let bounds = c.args.bounds.now in let row = c.loop-bound.row in
    let f = StepFacts-at c.args.count bounds c.args.source row i (omega arith) c.requires.source c.requires.range c.requires.sample h in
    let b = bound_at bounds i in
    let z = reach (time_of row b.from.0) b.most in
    let is : z ≡ time_of row b.from.0 +ℤ b.most = omega (arith, ints) in
    elim c.if-reached-row.branch [
      | then-reached-row w ↦
          let t = w.if-reached-row.true in
          let drops : room (set row b.to.0 z) < room row = room-set row b.to.0 z (omega arith) (omega (arith, ints)) (omega (arith, ints)) in
          rw (w.row-is, w.lowered-is) (record {
            reaches = Reaches-lowered c.args.count bounds c.args.source row b z h f.has f.from_in f.to_in is (omega (arith, ints));
            less = omega arith;
            lowered = omega arith;
            kept = tt;
          })
      | else-reached-row w ↦
          let not_lower = w.if-reached-row.false in
          rw (w.row-is, w.lowered-is) (record {
            reaches = h;
            less = less;
            lowered = c.loop-bound.invariant.lowered;
            kept = OnFalse-weaker c.loop-bound.lowered _ _ (λ k. below_more (λ j. Holds (time_of row) (bound_at bounds j)) i k (omega (arith, ints))) c.loop-bound.invariant.kept;
          })
    ]

pub returns-clause-settled : goal.returns-clause-settled
returns-clause-settled c =
    OnFalse-weaker c.loop-bound.lowered _ _ (λ k. All-from_get_or (Holds (time_of c.loop-bound.row)) c.args.bounds.now no_bound (λ j l. k j (omega arith))) c.loop-bound.invariant.kept
