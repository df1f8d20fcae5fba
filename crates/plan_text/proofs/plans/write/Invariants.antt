use Rattle.std.proofs.Common.{◌≡◌, ◌++◌, [], take, codes}
use Rattle.hs_base.specs.Walks.{join_after}
use Rattle.hs_texts.specs.PlanText.{extension_text}
use Rattle.plan_index.specs.Contents.{contents_of}
use Rattle.plan_text.proofs.plans.write.Given as goal

abbrev pub invariant-loop-extension : goal.invariant-loop-extension
invariant-loop-extension l =
    (l.index ≡ contents_of (take l.extension-index l.plan.extensions))
    × (l.text ≡ codes "hsts plan 1\n" ++ join_after (extension_text l.mission) [] (take l.extension-index l.plan.extensions))
