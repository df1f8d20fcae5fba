-- The number of free points, one extension on.
use Rattle.std.proofs.Common.{◌≡◌, ℕ, ◌+◌, ◌-◌, List, [], ◌∷◌, length, ap, arith, length-append}
use Rattle.hs_base.specs.declared.plan.Extension.{Extension}
use Rattle.hs_base.specs.Points.{count, tokens_of}
use Rattle.hs_base.specs.Checked.{joined, fixed_of, free_points}
use Rattle.base_laws.proofs.PointLemmas.{tokens-push, count_is}
use Rattle.plan_check.proofs.WithinLemmas.{fixed-push}

-- all of them, and those of the new extension, less the fixed ones
pub free_is : (es : List Extension) (e : Extension) → (count es + 1 + length e.tokens) - (length (fixed_of es) + length e.fixed) ≡ free_points (joined es e)
free_is es e =
    omega (
      arith,
      ap length (fixed-push es e),
      length-append (fixed_of es) e.fixed,
      count_is es,
      length-append es (e ∷ []),
      ap length (tokens-push es e),
      length-append (tokens_of es) e.tokens,
    )
