use Rattle.std.proofs.Common.{List, ◌++◌, take}
use Rattle.hs_base.specs.declared.plan.Support.{Support}
use Rattle.plan_check.specs.Claimed.{AreClaims}
use Rattle.plan_check.proofs.claims.Claims.insert_all.Given as goal

abbrev pub invariant-loop-support : goal.invariant-loop-support
invariant-loop-support l = (before : List Support) → AreClaims before l.initial.self.set → AreClaims (before ++ take l.support-index l.supports) l.self.set
