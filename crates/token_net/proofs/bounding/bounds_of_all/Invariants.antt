use Rattle.std.proofs.Common.{◌≡◌, take}
use Rattle.hs_base.specs.Bounds.{bounds_of}
use Rattle.plan_index.specs.Contents.{contents_of}
use Rattle.token_net.proofs.bounding.bounds_of_all.Given as goal

abbrev pub invariant-loop-extension : goal.invariant-loop-extension
invariant-loop-extension l = record {
  index : l.index ≡ contents_of (take l.extension-index l.extensions);
  made : l.made ≡ bounds_of l.mission (take l.extension-index l.extensions);
}
