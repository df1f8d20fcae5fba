use Rattle.std.proofs.Common.{◌≡◌, [], ◌∷◌, take, drop, cond, length}
use Rattle.hs_base.specs.Walks.{join_after}
use Rattle.hs_texts.specs.MissionRefusals.{is_early}
use Rattle.domain_check.proofs.horizons.check_horizons.Given as goal

abbrev pub invariant-loop-i : goal.invariant-loop-i
invariant-loop-i l = join_after (λ before h. cond (is_early before h) (length before ∷ []) []) [] l.horizons ≡ join_after (λ before h. cond (is_early before h) (length before ∷ []) []) (take l.i l.horizons) (drop l.i l.horizons)
