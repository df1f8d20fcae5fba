use Rattle.std.proofs.Common.{arith, rules, get_or, SFits, w64, pos}
use Rattle.std.proofs.lemmas.Int.{to_z-of_z}
use Rattle.hs_base.specs.declared.plan.Time.{Time}
use Rattle.std.proofs.lemmas.List.Elements.{Contains-get_or}
use Rattle.stn_distance.proofs.FoldingLemmas.{IsFolding-row, IsFolding-fixed}
use Rattle.stn_distance.proofs.folding.folding_of.Goals as goal
use Rattle.stn_distance.proofs.folding.folding_of.Goals.{then-next-fixed+then-fixed-next+in_ok-push, else-next-fixed+in_ok-push_row}

abbrev no_time : Time
no_time = record { point = record { 0 = 0 }; at = pos 0 }

pub loop-point-preserved : goal.loop-point-preserved
loop-point-preserved c =
    let h = c.loop-point.invariant in let f = c.loop-point.folding in
    elim c.if-next-fixed.branch [
      | then-next-fixed+then-fixed-next+in_ok-push w ↦
          let s = w.in_ok-push.ensures in
          let time : Time = get_or c.args.fixed.now c.loop-point.next no_time in
          let fits : SFits w64 time.at = search rules in
          rw (w.folding-is, s.points, s.places, s.offsets, to_z-of_z w64 time.at fits)
          (IsFolding-fixed c.loop-point.point c.args.fixed.now f.points.items f.places.items f.offsets.items time h
          (Contains-get_or c.args.fixed.now c.loop-point.next no_time (omega arith)) w.if-fixed-next.true)
      | else-next-fixed+in_ok-push_row w ↦
          let s = w.in_ok-push_row.ensures in
          rw (w.folding-is, s.points, s.places, s.offsets)
          (IsFolding-row c.loop-point.point c.args.fixed.now f.points.items f.places.items f.offsets.items h)
    ]
