use Rattle.std.proofs.Common.{ap, length, ◌∙◌, sym}
use Rattle.search_tree.proofs.CellLemmas.{length-map'}
use Rattle.timeline_db.specs.Lines.{cell_of}
use Rattle.timeline_db.specs.Plannings.{partial_of}
use Rattle.compat_resolve.proofs.LineLemmas.{all_shown, made_good, no_line}
use Rattle.compat_resolve.proofs.ListedLemmas.{last_none, last_shown}
use Rattle.compat_resolve.proofs.listing.is_last.Goals as goal

pub returns-in-None : goal.returns-in-None
returns-in-None c =
    let d = c.args.db.now in
    last_none (partial_of d) c.args.token (no_line d.mission d.begun (partial_of d) c.was_allowed.ensures.begins (made_good d c.was_allowed.ensures.begins c.was_allowed.ensures.allowed) c.args.token.sv.0 c.in-None.ensures.none)

pub returns-in-Some : goal.returns-in-Some
returns-in-Some c =
    let d = c.args.db.now in
    let good = made_good d c.was_allowed.ensures.begins c.was_allowed.ensures.allowed in
    let all = all_shown d.mission d.begun (partial_of d) c.was_allowed.ensures.begins good c.args.token.sv.0 c.in-Some.line.now c.in-Some.ensures.some.1 c.in-Some.ensures.some.0 in
    last_shown (partial_of d) c.args.token c.len.result (c.len.ensures ∙ sym (length-map' cell_of c.in-Some.line.now.tokens) ∙ sym (ap length all))
