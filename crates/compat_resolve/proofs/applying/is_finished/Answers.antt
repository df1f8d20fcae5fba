use Rattle.std.proofs.Common.{ap, sym}
use Rattle.search_tree.specs.Partial.{Row}
use Rattle.timeline_db.specs.Plannings.{partial_of}
use Rattle.compat_resolve.proofs.LineLemmas.{made_good, no_line}
use Rattle.compat_resolve.proofs.applying.is_finished.Goals as goal

pub returns-in-None : goal.returns-in-None
returns-in-None c =
    let d = c.args.db.now in
    sym (ap (λ (r : Row). r.finished) (no_line d.mission d.begun (partial_of d) c.was_allowed.ensures.begins (made_good d c.was_allowed.ensures.begins c.was_allowed.ensures.allowed) c.args.sv.0 c.in-None.ensures.none))
