use Rattle.std.proofs.Common.{◌≡◌, ℕ, Bool, drop, cond, Some, None}
use Rattle.std.specs.Prelude.{filter_map}
use Rattle.domain_check.proofs.limits.check_kept.Given as goal

abbrev pub invariant-loop-limit : goal.invariant-loop-limit
invariant-loop-limit l = filter_map (λ (m : ℕ × Bool). cond m.1 None (Some m.0)) l.limits ≡ filter_map (λ (m : ℕ × Bool). cond m.1 None (Some m.0)) (drop l.limit-index l.limits)
