use Rattle.std.proofs.Common.{◌≡◌, ◌++◌, flat_map, take}
use Rattle.hs_texts.specs.NetText.{member_line}
use Rattle.plan_text.proofs.nets.push_group.Given as goal

abbrev pub invariant-loop-member : goal.invariant-loop-member
invariant-loop-member l = l.text ≡ l.initial.text ++ flat_map (member_line l.mission l.index.points) (take l.member-index l.group.members)
