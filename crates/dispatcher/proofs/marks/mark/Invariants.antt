use Rattle.std.proofs.Common.{◌≡◌, ◌<◌, ℕ, None, get_or}
use Rattle.std.specs.Option.{is_none}
use Rattle.std.specs.List.{count_by}
use Rattle.dispatcher.specs.Marks.{AreSound, leader_time}
use Rattle.dispatcher.proofs.marks.mark.Given as goal

abbrev pub invariant-loop-i : goal.invariant-loop-i
invariant-loop-i l = (k : ℕ) → k < l.i → get_or l.marks k None ≡ None

abbrev pub invariant-turns : goal.invariant-turns
invariant-turns l = AreSound l.edges (leader_time l.windows l.places) l.now l.marks

abbrev pub decreases-turns : goal.decreases-turns
decreases-turns l = count_by is_none l.marks
