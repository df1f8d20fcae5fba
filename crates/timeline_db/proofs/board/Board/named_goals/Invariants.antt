use Rattle.std.proofs.Common.{◌≡◌, ◌∷◌, [], flat_map, take}
use Rattle.hs_base.specs.Bounds.{on_some}
use Rattle.search_tree.specs.Extends.{ref_of}
use Rattle.timeline_db.specs.Boards.{pictured}
use Rattle.timeline_db.proofs.board.Board.named_goals.Given as goal

abbrev pub invariant-loop-goal : goal.invariant-loop-goal
invariant-loop-goal l = l.goals ≡ flat_map (λ o. on_some o (λ x. ref_of (pictured l.self) x ∷ [])) (take l.goal-index l.self.goals.items)
