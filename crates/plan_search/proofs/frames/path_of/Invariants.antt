use Rattle.std.proofs.Common.{take, ◌≡◌}
use Rattle.plan_search.specs.Searched.{path_to}
use Rattle.plan_search.proofs.frames.path_of.Given as goal

abbrev pub invariant-loop-place : goal.invariant-loop-place
invariant-loop-place l = l.path ≡ path_to (take l.place l.frames)
