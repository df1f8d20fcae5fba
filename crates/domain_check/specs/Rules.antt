-- The rules of written missions, all together.
use Rattle.std.specs.Prelude.{◌≡◌, ◌⊎◌, []}
use Rattle.hs_texts.specs.declared.ast.Ast.{Ast}
use Rattle.hs_texts.specs.declared.ast.AstNeed.{AstNeed}
use Rattle.hs_texts.specs.declared.refusal.Refusal.{Refusal}
use Rattle.hs_texts.specs.declared.refusal.Refusal.TheVariants.{Memory as NoMemory}
use Rattle.hs_texts.specs.MissionRefusals.{twice_names, unknown_names, bad_ranges, passed_limits, names_without_begin, early_horizons, places, asks_itself, asks_twice}
use Rattle.hs_texts.specs.MissionSpelling.{IsMissionRefusal}

-- no rule is broken
pub record KeepsRules (a : Ast) : Type 0 where
  pub twice : twice_names a ≡ []
  pub unknown : unknown_names a ≡ []
  pub ranges : bad_ranges a ≡ []
  pub limits : passed_limits a ≡ []
  pub begins : names_without_begin a ≡ []
  pub horizons : early_horizons a ≡ []
  pub variables : places asks_itself a.needs ≡ []
  pub choices : places (λ (n : AstNeed). asks_twice n.either) a.needs ≡ []

-- the refusal is the first, or memory ran out
pub record IsBroken (a : Ast) (r : Refusal) : Type 0 where
  pub broken : (r ≡ NoMemory) ⊎ IsMissionRefusal a r
