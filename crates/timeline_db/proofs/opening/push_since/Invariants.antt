use Rattle.std.proofs.Common.{◌≡◌, ◌-◌, ◌++◌, [], ◌∷◌, cond}
use Rattle.std.specs.Prelude.{flat_map, neg_ℤ}
use Rattle.hs_base.specs.Bounds.{is_fixed}
use Rattle.hs_base.specs.Schedule.{bound, numbers_from}
use Rattle.plan_check.specs.Seen.{seen}
use Rattle.search_tree.specs.Begun.{begun_of, stub}
use Rattle.timeline_db.proofs.opening.push_since.Given as goal

abbrev pub invariant-loop-x : goal.invariant-loop-x
invariant-loop-x l = l.made.items ≡ l.initial.made.items ++ flat_map (λ x. cond (is_fixed (stub (begun_of (seen l.snapshot))) x) [] (bound x 0 (neg_ℤ l.snapshot.since) ∷ [])) (numbers_from 1 (l.x - 1))
