use Rattle.std.proofs.Common.{◌≡◌, drop, flat_map, length, take}
use Rattle.timeline_db.specs.Lines.{Shown}
use Rattle.timeline_db.proofs.laying.count_added.Given as goal

abbrev pub invariant-loop-line : goal.invariant-loop-line
invariant-loop-line l = l.added ≡ length (flat_map (λ (s : Shown). drop s.given s.tokens) (take l.line-index l.lines))
