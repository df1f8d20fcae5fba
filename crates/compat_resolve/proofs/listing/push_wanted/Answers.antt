use Rattle.timeline_db.specs.Plannings.{partial_of}
use Rattle.compat_resolve.proofs.LineLemmas.{made_good, no_line}
use Rattle.compat_resolve.proofs.ListedLemmas.{wanted_none}
use Rattle.compat_resolve.proofs.listing.push_wanted.Goals as goal

pub returns-in-None : goal.returns-in-None
returns-in-None c =
    let d = c.args.db.now in
    wanted_none d.begun (partial_of d) c.args.kind c.args.list.now (no_line d.mission d.begun (partial_of d) c.was_allowed.ensures.begins (made_good d c.was_allowed.ensures.begins c.was_allowed.ensures.allowed) c.args.kind.sv.0 c.in-None.ensures.none)
