use Rattle.std.proofs.Common.{◌≡◌, take}
use Rattle.plan_index.specs.Contents.{contents_of}
use Rattle.plan_index.proofs.index.PlanIndex.of.Given as goal

abbrev pub invariant-loop-extension : goal.invariant-loop-extension
invariant-loop-extension l = l.index ≡ contents_of (take l.extension-index l.extensions)
