use Rattle.compat_resolve.proofs.ListedLemmas.{connects_hit, connects_miss}
use Rattle.std.proofs.Common.{◌∙◌}
use Rattle.compat_resolve.proofs.listing.push_connects.Goals as goal
use Rattle.compat_resolve.proofs.listing.push_connects.Goals.{then-tokens-place+in_ok-push, else-tokens-place}

pub loop-place-preserved : goal.loop-place-preserved
loop-place-preserved c = elim c.if-tokens-place.branch [
  | then-tokens-place+in_ok-push w ↦ connects_hit c.args.kind c.loop-place.place c.args.tokens.now _ c.loop-place.list _ _ c.loop-place-test.true c.requires.own w.if-tokens-place.true c.loop-place.invariant (w.list-is ∙ w.in_ok-push.ensures.ok)
  | else-tokens-place w ↦ connects_miss c.args.kind c.loop-place.place c.args.tokens.now _ c.loop-place.list _ _ c.loop-place-test.true w.if-tokens-place.false c.loop-place.invariant w.list-is
]
