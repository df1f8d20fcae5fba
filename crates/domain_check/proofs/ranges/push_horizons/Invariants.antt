use Rattle.std.proofs.Common.{◌≡◌, ◌++◌, map, flat_map, take}
use Rattle.hs_texts.specs.declared.ast.AstHorizon.{AstHorizon}
use Rattle.hs_texts.specs.MissionRefusals.{is_exchanged, ranges_of_goal}
use Rattle.domain_check.proofs.ranges.push_horizons.Given as goal

abbrev pub invariant-loop-horizon : goal.invariant-loop-horizon
invariant-loop-horizon l = l.bad ≡ l.fn.bad ++ map is_exchanged (flat_map (λ (h : AstHorizon). flat_map ranges_of_goal h.goals) (take l.horizon-index l.horizons))
