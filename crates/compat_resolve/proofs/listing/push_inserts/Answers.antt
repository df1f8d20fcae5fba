use Rattle.std.proofs.Common.{◌∙◌, sym}
use Rattle.compat_resolve.proofs.ListedLemmas.{inserts_done}
use Rattle.compat_resolve.proofs.listing.push_inserts.Goals as goal

pub returns-in_ok-push : goal.returns-in_ok-push
returns-in_ok-push c =
    let ajar = sym c.is_finished.ensures ∙ c.if-not-is_finished.true in
    inserts_done c.args.kind c.args.line.now.tokens c.tokens.result.now c.args.line.now.finished c.args.list.now _ _ _ ajar (c.requires.some ajar) c.tokens.ensures c.in_ok-push_gaps.ensures c.len.ensures c.in_ok-push.ensures.ok
