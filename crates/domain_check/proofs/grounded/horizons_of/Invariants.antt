use Rattle.std.proofs.Common.{◌≡◌, map, take}
use Rattle.domain_check.specs.Numbering.{horizon_of}
use Rattle.domain_check.proofs.grounded.horizons_of.Given as goal

abbrev pub invariant-loop-horizon : goal.invariant-loop-horizon
invariant-loop-horizon l = l.made ≡ map (horizon_of l.tables.written.now) (take l.horizon-index l.horizons)
