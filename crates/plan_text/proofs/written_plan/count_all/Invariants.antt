use Rattle.std.proofs.Common.{List, ℕ, ◌++◌, take}
use Rattle.plan_text.specs.SoFar.{Counts, names_of_kinds}
use Rattle.plan_text.proofs.written_plan.count_all.Given as goal

abbrev pub invariant-loop-token : goal.invariant-loop-token
invariant-loop-token l = (names : List (List ℕ)) → Counts l.vars names l.fn.counts.items → Counts l.vars (names ++ names_of_kinds (take l.token-index l.tokens)) l.counts.items
