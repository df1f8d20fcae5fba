use Rattle.compat_resolve.proofs.ListedLemmas.{gaps_end, gaps_hit, gaps_miss, slots_begin}
use Rattle.std.proofs.Common.{◌∙◌, ◌++◌, ap}
use Rattle.compat_resolve.specs.Listed.{inserts}
use Rattle.compat_resolve.proofs.listing.push_gaps.Goals as goal
use Rattle.compat_resolve.proofs.listing.push_gaps.Goals.{then-not-tokens-place+in_ok-push, else-not-tokens-place}

pub loop-place-init : goal.loop-place-init
loop-place-init c = ap (λ l. c.args.list.now ++ inserts c.args.kind l) (slots_begin c.args.tokens.now)

pub loop-place-preserved : goal.loop-place-preserved
loop-place-preserved c = elim c.if-not-tokens-place.branch [
  | then-not-tokens-place+in_ok-push w ↦ gaps_hit c.args.kind c.loop-place.place c.args.tokens.now _ c.loop-place.list _ _ c.loop-place-test.true c.loop-place.auto.place w.if-not-tokens-place.true c.loop-place.invariant (w.list-is ∙ w.in_ok-push.ensures.ok)
  | else-not-tokens-place w ↦ gaps_miss c.args.kind c.loop-place.place c.args.tokens.now _ c.loop-place.list _ _ c.loop-place-test.true c.loop-place.auto.place w.if-not-tokens-place.false c.loop-place.invariant w.list-is
]

pub returns : goal.returns
returns c = gaps_end c.args.kind c.loop-place.place c.args.tokens.now c.loop-place.list _ c.loop-place-test.false c.loop-place.invariant
