-- The executive's replies as those of the machine.
use Rattle.hs_machine.specs.Machine.{done, due, not_yet, waits, observed, not_observed, already, no_point, failed, stale, not_next, over, no_net, other_mission, shown, memory}
use Rattle.hs_machine.specs.Machine as machine
use Rattle.line_view.specs.Lines.{line_seen}
use Rattle.exec_core.specs.declared.reply.Reply.{Reply}
use Rattle.exec_core.specs.declared.reply.Reply.TheVariants.{Done, Due, NotYet, Waits, Observed, NotObserved, Already, NoPoint, Failed, Stale, NotNext, Over, NoNet, OtherMission, Line, Memory}

abbrev pub reply_of : Reply → machine.Reply
reply_of Done = done
reply_of (Due x) = due x.0
reply_of (NotYet b) = not_yet b
reply_of (Waits x) = waits x.0
reply_of Observed = observed
reply_of NotObserved = not_observed
reply_of (Already t) = already t
reply_of NoPoint = no_point
reply_of (Failed b) = failed b
reply_of (Stale b p q) = stale b p q
reply_of (NotNext current agree) = not_next current agree
reply_of Over = over
reply_of NoNet = no_net
reply_of OtherMission = other_mission
reply_of (Line l) = shown (line_seen l)
reply_of Memory = memory
