use Rattle.std.proofs.Common.{arith}
use Rattle.std.proofs.lemmas.List.{take_all}
use Rattle.local_propagate.proofs.JoinedLemmas.{leaders_more}
use Rattle.local_propagate.proofs.places.past_leaders.Goals.{then-size-end, else-size-end}
use Rattle.local_propagate.proofs.places.past_leaders.Goals as goal

pub loop-group-preserved : goal.loop-group-preserved
loop-group-preserved c =
    leaders_more c.args.groups.now c.loop-group.group-index c.loop-group.size c.if-size-end.size c.group-item.result c.loop-group-test.true c.group-item.is c.loop-group.invariant
    (elim c.if-size-end.branch [ then-size-end w ↦ omega arith | else-size-end w ↦ omega arith ]) (elim c.if-size-end.branch [ then-size-end w ↦ omega arith | else-size-end w ↦ omega arith ])

pub returns : goal.returns
returns c = rw (take_all c.loop-group.group-index c.args.groups.now c.loop-group-test.false) at c.loop-group.invariant
