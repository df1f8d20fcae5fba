-- A part undone: the part itself says what to take back.
use Rattle.std.specs.Prelude.{List, None, false, length, remove, set, suc, take, ℕ, ◌-◌}
use Rattle.search_tree.specs.Partial.{Partial, Row}
use Rattle.search_tree.specs.Parts.{at_place}
use Rattle.search_tree.specs.declared.held.Cell.{Cell}
use Rattle.search_tree.specs.declared.part.Part.{Part}
use Rattle.search_tree.specs.declared.part.Part.TheVariants.{Deferred, Finished, Followed, Inserted, Joined, MetGoal, Supported}

-- without the token behind place i
abbrev pub take_out : ℕ → Row → Row
take_out i r = record { given = r.given; added = remove r.added (suc i - length r.given); finished = r.finished }

-- with a gap behind place i
abbrev pub part_at : ℕ → Row → Row
part_at i r = record { given = r.given; added = at_place (λ (c : Cell). record { held = c.held; joined = false }) (suc i - length r.given) r.added; finished = r.finished }

abbrev pub go_on : Row → Row
go_on r = record { given = r.given; added = r.added; finished = false }

abbrev pub without : Partial → ℕ → List Row → Partial
without p grown rows = record { rows = rows; supports = p.supports; goals = p.goals; deferred = p.deferred; points = p.points - grown }

abbrev pub undo_part : Partial → Part → Partial
undo_part p (Inserted v i value) = without p 2 (at_place (take_out i) v.0 p.rows)
undo_part p (Followed v i value) = without p 1 (at_place (take_out i) v.0 p.rows)
undo_part p (Joined v i) = without p 0 (at_place (part_at i) v.0 p.rows)
undo_part p (Finished v) = without p 0 (at_place go_on v.0 p.rows)
undo_part p (Supported t i by) = record { rows = p.rows; supports = take (length p.supports - 1) p.supports; goals = p.goals; deferred = p.deferred; points = p.points }
undo_part p (MetGoal g by) = record { rows = p.rows; supports = p.supports; goals = set p.goals g None; deferred = p.deferred; points = p.points }
undo_part p (Deferred t i) = record { rows = p.rows; supports = p.supports; goals = p.goals; deferred = take (length p.deferred - 1) p.deferred; points = p.points }
