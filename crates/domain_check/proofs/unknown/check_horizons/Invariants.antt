use Rattle.std.proofs.Common.{◌≡◌, flat_map, drop}
use Rattle.hs_texts.specs.declared.ast.AstHorizon.{AstHorizon}
use Rattle.hs_texts.specs.MissionRefusals.{unknown_in_kind}
use Rattle.domain_check.specs.Tables.{kinds_of_goals}
use Rattle.domain_check.proofs.unknown.check_horizons.Given as goal

abbrev pub invariant-loop-horizon : goal.invariant-loop-horizon
invariant-loop-horizon l = flat_map (unknown_in_kind l.tables.written.now) (flat_map (λ (h : AstHorizon). kinds_of_goals h.goals) l.horizons) ≡ flat_map (unknown_in_kind l.tables.written.now) (flat_map (λ (h : AstHorizon). kinds_of_goals h.goals) (drop l.horizon-index l.horizons))
