use Rattle.std.proofs.Common.{ap, sym, ◌∙◌}
use Rattle.search_tree.specs.Partial.{cells}
use Rattle.timeline_db.specs.Plannings.{partial_of}
use Rattle.timeline_db.proofs.PictureLemmas.{cells-row}
use Rattle.compat_resolve.proofs.ListedLemmas.{slot_resolved}
use Rattle.compat_resolve.proofs.listing.push_in.Goals as goal

pub returns : goal.returns
returns c =
    let d = c.args.db.now in
    slot_resolved d.mission d.begun (partial_of d) c.args.sv c.args.place c.args.line.now.tokens (ap cells (sym c.requires.shows) ∙ cells-row c.args.line.now c.requires.line.joined) c.tokens-tokens.result.now _ c.next-next.result.now c.args.list.now _ _ c.tokens-tokens.ensures c.requires.place c.next-next.ensures c.in_ok-push_closing.ensures c.in_ok-push_follows.ensures
