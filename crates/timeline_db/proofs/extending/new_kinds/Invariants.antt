use Rattle.std.proofs.Common.{◌≡◌, drop, flat_map, map, take}
use Rattle.timeline_db.proofs.extending.new_kinds.Given as goal

abbrev pub invariant-loop-line : goal.invariant-loop-line
invariant-loop-line l = l.kinds ≡ flat_map (λ s. map (λ t. t.held.kind) (drop s.given s.tokens)) (take l.line-index l.lines)
