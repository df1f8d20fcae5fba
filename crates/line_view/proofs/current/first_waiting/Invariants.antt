use Rattle.std.proofs.Common.{◌≡◌, ◌+◌, drop, map}
use Rattle.hs_machine.specs.Views.{first_waiting}
use Rattle.dispatcher.specs.State.{time_in}
use Rattle.plan_index.specs.declared.placed.PlacedToken.{PlacedToken}
use Rattle.line_view.proofs.current.first_waiting.Given as goal

abbrev pub invariant-loop-i : goal.invariant-loop-i
invariant-loop-i l = first_waiting (time_in l.dispatch) (map (λ (p : PlacedToken). p.end.0) l.tokens) ≡ l.i + first_waiting (time_in l.dispatch) (map (λ (p : PlacedToken). p.end.0) (drop l.i l.tokens))
