use Rattle.std.proofs.Common.{◌≡◌, ◌<◌, All, take}
use Rattle.std.specs.Option.{is_none}
use Rattle.std.specs.List.{count_by}
use Rattle.std.specs.Bool.{OnTrue, OnFalse}
use Rattle.dispatcher.specs.Marks.{AreSound, IsMet, leader_time}
use Rattle.dispatcher.proofs.marks.mark_turn.Given as goal

abbrev pub invariant-loop-i : goal.invariant-loop-i
invariant-loop-i l = record {
  sound : AreSound l.edges (leader_time l.windows l.places) l.now l.marks;
  fewer : OnTrue l.more (count_by is_none l.marks < count_by is_none l.initial.marks);
  met : OnFalse l.more ((l.marks ≡ l.initial.marks) × All (IsMet (leader_time l.windows l.places) l.now l.marks) (take l.i l.edges));
}
