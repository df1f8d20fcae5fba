use Rattle.std.proofs.Common.{◌≡◌, take}
use Rattle.token_net.specs.Items.{tokens_ended}
use Rattle.token_net.proofs.bounding.ended_at.Given as goal

abbrev pub invariant-loop-name : goal.invariant-loop-name
invariant-loop-name l = l.tokens.items ≡ tokens_ended (take l.name-index l.names)
