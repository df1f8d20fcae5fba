-- What an extension that keeps the rules keeps of each.
use Rattle.std.proofs.Common.{List}
use Rattle.hs_base.specs.Types.{Extension, Mission}
use Rattle.hs_base.specs.Checked.{joined, KeepsBase, KeepsLimits, KeepsOrder, KeepsFixed, KeepsSupports, KeepsNeeds, KeepsGoals, KeepsRules}

module _ {m : Mission} {es : List Extension} {e : Extension} (kept : KeepsRules m es e) where
  pub base_kept : KeepsBase m es e
  base_kept = kept.each.0

  pub limits_kept : KeepsLimits es e
  limits_kept = kept.each.1.0

  pub order_kept : KeepsOrder m es e
  order_kept = kept.each.1.1.0

  pub fixed_kept : KeepsFixed es e
  fixed_kept = kept.each.1.1.1.0

  pub supports_kept : KeepsSupports m es e
  supports_kept = kept.each.1.1.1.1.0

  pub needs_kept : KeepsNeeds m (joined es e)
  needs_kept = kept.each.1.1.1.1.1.0

  pub goals_kept : KeepsGoals m es e
  goals_kept = kept.each.1.1.1.1.1.1.0
