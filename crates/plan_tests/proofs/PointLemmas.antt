-- The smallest plan is within its mission.
use Rattle.std.proofs.Common.{◌≡◌, List, refl, rules, subst, sym}
use Rattle.hs_base.specs.declared.mission.Mission.{Mission}
use Rattle.hs_base.specs.declared.plan.Extension.{Extension}
use Rattle.base_laws.specs.Samples.{smallest, smallest_plan}
use Rattle.token_net.specs.Conditions.{IsWithin}

smallest_within : IsWithin smallest smallest_plan
smallest_within = record { kinds = ((_, refl, search rules), ((_, refl, search rules), tt)); points = search rules; times = search rules; since = search rules }

-- the same of equal ones
pub within_smallest : (m : Mission) (es : List Extension) → m ≡ smallest → es ≡ smallest_plan → IsWithin m es
within_smallest m es p q = subst (λ (x : Mission). IsWithin x es) (sym p) (subst (λ (x : List Extension). IsWithin smallest x) (sym q) smallest_within)
