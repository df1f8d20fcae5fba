use Rattle.std.proofs.Common.{◌≡◌, ◌++◌, flat_map, take}
use Rattle.hs_texts.specs.Written.{support_line}
use Rattle.plan_text.proofs.body.push_supports.Given as goal

abbrev pub invariant-loop-support : goal.invariant-loop-support
invariant-loop-support l = l.text ≡ l.fn.text ++ flat_map (support_line l.mission) (take l.support-index l.supports)
