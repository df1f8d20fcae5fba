use Rattle.std.proofs.Common.{◌≡◌, flat_map, length, take}
use Rattle.timeline_db.specs.Lines.{Shown}
use Rattle.timeline_db.proofs.laying.count_tokens.Given as goal

abbrev pub invariant-loop-line : goal.invariant-loop-line
invariant-loop-line l = l.total ≡ length (flat_map (λ (s : Shown). s.tokens) (take l.line-index l.lines))
