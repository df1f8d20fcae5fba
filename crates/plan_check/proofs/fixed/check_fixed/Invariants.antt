use Rattle.std.proofs.Common.{◌<◌, ◌≤◌, [], take}
use Rattle.hs_base.specs.Walks.{EachAfter}
use Rattle.hs_base.specs.Points.{count}
use Rattle.hs_base.specs.Checked.{KeepsFixedAt}
use Rattle.plan_check.proofs.FixedLemmas.{AreRising}
use Rattle.plan_check.proofs.fixed.check_fixed.Given as goal

abbrev pub invariant-loop-i : goal.invariant-loop-i
invariant-loop-i l = record {
  kept : EachAfter (KeepsFixedAt l.plan.extensions l.extension) [] (take l.i l.fixed);
  rising : AreRising (take l.i l.fixed) l.last;
  number : l.i ≤ l.last;
  below : l.last < count l.plan.extensions;
}
