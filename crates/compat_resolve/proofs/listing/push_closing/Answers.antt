use Rattle.std.proofs.Common.{arith, sym, ◌∙◌}
use Rattle.compat_resolve.proofs.ListedLemmas.{closing_join, closing_none}
use Rattle.compat_resolve.proofs.listing.push_closing.Goals as goal

pub returns-in_ok-push : goal.returns-in_ok-push
returns-in_ok-push c = closing_join c.args.tokens.now c.args.place _ c.args.next.now c.args.list.now _ (omega (arith, c.if-after-tokens.false)) (sym c.is_among.ensures ∙ c.if-is_among.true) c.in_ok-push.ensures.ok

pub returns-else-is_among : goal.returns-else-is_among
returns-else-is_among c = closing_none c.args.tokens.now c.args.place _ c.args.next.now c.args.list.now (omega (arith, c.if-after-tokens.false)) (sym c.is_among.ensures ∙ c.if-is_among.false)
