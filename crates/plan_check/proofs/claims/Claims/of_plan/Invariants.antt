use Rattle.std.proofs.Common.{take}
use Rattle.hs_base.specs.Checked.{supports_of}
use Rattle.plan_check.specs.Claimed.{AreClaims}
use Rattle.plan_check.proofs.claims.Claims.of_plan.Given as goal

abbrev pub invariant-loop-extension : goal.invariant-loop-extension
invariant-loop-extension l = AreClaims (supports_of (take l.extension-index l.extensions)) l.claims.set
