use Rattle.std.proofs.Common.{◌≡◌, ◌++◌, flat_map, take}
use Rattle.journal_text.specs.Reasons.{why_line}
use Rattle.journal_text.proofs.reasons.push_chain.Given as goal

abbrev pub invariant-loop-bound : goal.invariant-loop-bound
invariant-loop-bound l = l.text ≡ l.fn.text ++ flat_map (why_line l.mission l.index.points) (take l.bound-index l.chain)
