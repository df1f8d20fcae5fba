use Rattle.std.proofs.Common.{[], take}
use Rattle.hs_base.specs.Walks.{EachAfter}
use Rattle.hs_base.specs.Checked.{KeepsOrderAt}
use Rattle.plan_check.proofs.OrderLemmas.{AreGrouped}
use Rattle.plan_check.proofs.order.check_order.Given as goal

abbrev pub invariant-loop-i : goal.invariant-loop-i
invariant-loop-i l = record {
  kept : EachAfter (KeepsOrderAt l.mission l.plan.extensions) [] (take l.i l.tokens);
  grouped : AreGrouped (take l.i l.tokens) l.lowest;
}
