use Rattle.std.proofs.Common.{ap, arith, length}
use Rattle.search_tree.specs.Partial.{Row, cells}
use Rattle.timeline_db.specs.Plannings.{partial_of}
use Rattle.compat_resolve.proofs.LineLemmas.{made_good, no_line}
use Rattle.compat_resolve.proofs.listing.push_for_slot.Goals as goal

pub returns-in-None : goal.returns-in-None
returns-in-None c =
    let d = c.args.db.now in
    let none = no_line d.mission d.begun (partial_of d) c.was_allowed.ensures.begins (made_good d c.was_allowed.ensures.begins c.was_allowed.ensures.allowed) c.args.sv.0 c.in-None.ensures.none in
    let size = ap (λ (r : Row). length (cells r)) none in
    absurd (omega (arith, c.requires, size))
