use Rattle.std.proofs.Common.{◌≡◌, ◌+◌, drop}
use Rattle.hs_machine.specs.Views.{first_waiting, marks_of}
use Rattle.dispatcher.specs.State.{time_in}
use Rattle.line_view.proofs.current.next_mark.Given as goal

abbrev pub invariant-loop-k : goal.invariant-loop-k
invariant-loop-k l = first_waiting (time_in l.dispatch) (marks_of l.plan.plan.extensions) ≡ l.k + first_waiting (time_in l.dispatch) (drop l.k (marks_of l.plan.plan.extensions))
