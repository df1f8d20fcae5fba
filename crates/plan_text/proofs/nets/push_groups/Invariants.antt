use Rattle.std.proofs.Common.{◌≡◌, ◌++◌, flat_map, take}
use Rattle.hs_texts.specs.NetText.{group_lines}
use Rattle.plan_text.proofs.nets.push_groups.Given as goal

abbrev pub invariant-loop-group : goal.invariant-loop-group
invariant-loop-group l = l.text ≡ l.fn.text ++ flat_map (group_lines l.mission l.index.points) (take l.group-index l.groups)
