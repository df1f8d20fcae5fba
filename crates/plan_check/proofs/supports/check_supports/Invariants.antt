use Rattle.std.proofs.Common.{[], ◌++◌, take}
use Rattle.hs_base.specs.Walks.{EachAfter}
use Rattle.hs_base.specs.Checked.{supports_of, KeepsSupportAt}
use Rattle.plan_check.specs.Claimed.{AreClaims}
use Rattle.plan_check.proofs.SupportLemmas.{AreCounted}
use Rattle.plan_check.proofs.supports.check_supports.Given as goal

abbrev pub invariant-loop-i : goal.invariant-loop-i
invariant-loop-i l = record {
  kept : EachAfter (KeepsSupportAt l.mission l.plan.extensions l.extension) [] (take l.i l.supports);
  claims : AreClaims (supports_of l.plan.extensions ++ take l.i l.supports) l.claims.set;
  number : AreCounted l.supports l.i;
}
