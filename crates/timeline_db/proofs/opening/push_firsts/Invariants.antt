use Rattle.std.proofs.Common.{◌≡◌, ◌++◌, flat_map, take}
use Rattle.timeline_db.specs.Opening.{own_bounds}
use Rattle.timeline_db.specs.declared.token.Token.{Token}
use Rattle.timeline_db.proofs.opening.push_firsts.Given as goal

abbrev pub invariant-loop-token : goal.invariant-loop-token
invariant-loop-token l = l.made.items ≡ l.initial.made.items ++ flat_map (λ (t : Token). own_bounds l.mission l.mark l.since t.held) (take l.token-index l.tokens)
