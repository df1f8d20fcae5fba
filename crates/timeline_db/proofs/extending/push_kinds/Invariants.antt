use Rattle.std.proofs.Common.{◌≡◌, ◌++◌, map, take}
use Rattle.timeline_db.proofs.extending.push_kinds.Given as goal

abbrev pub invariant-loop-token : goal.invariant-loop-token
invariant-loop-token l = l.kinds ≡ l.fn.kinds ++ map (λ t. t.held.kind) (take l.token-index l.tokens)
