use Rattle.std.proofs.Common.{◌++◌, ◌≡◌, flat_map, take}
use Rattle.hs_base.specs.declared.mission.Choice.{Choice}
use Rattle.search_tree.specs.Resolvers.{wanted}
use Rattle.timeline_db.specs.Plannings.{partial_of}
use Rattle.compat_resolve.proofs.listing.push_choices.Given as goal

abbrev pub invariant-loop-choice : goal.invariant-loop-choice
invariant-loop-choice l = l.list ≡ l.fn.list ++ flat_map (λ (c : Choice). wanted l.db.begun (partial_of l.db) c.by) (take l.choice-index l.choices)
