use Rattle.std.proofs.Common.{◌≡◌, ◌++◌, flat_map, take, codes}
use Rattle.hs_texts.specs.Written.{bound_in}
use Rattle.answer_lines.proofs.faults.push_bounds.Given as goal

abbrev pub invariant-loop-bound : goal.invariant-loop-bound
invariant-loop-bound l = l.text ≡ l.fn.text ++ flat_map (λ b. bound_in l.mission l.index.points b ++ codes "\n") (take l.bound-index l.bounds)
