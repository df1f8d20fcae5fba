use Rattle.std.proofs.Common.{◌≡◌, [], ◌∷◌, take, drop, cond, length}
use Rattle.hs_base.specs.Walks.{join_after}
use Rattle.hs_texts.specs.declared.ast.AstNeed.{AstNeed}
use Rattle.hs_texts.specs.MissionRefusals.{places, asks_twice}
use Rattle.domain_check.proofs.needs.check_choices.Given as goal

abbrev pub invariant-loop-i : goal.invariant-loop-i
invariant-loop-i l = places (λ (n : AstNeed). asks_twice n.either) l.needs ≡ join_after (λ before (n : AstNeed). cond (asks_twice n.either) (length before ∷ []) []) (take l.i l.needs) (drop l.i l.needs)
