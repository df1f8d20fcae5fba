use Rattle.std.proofs.Common.{◌≡◌, ◌++◌, flat_map, take}
use Rattle.hs_texts.specs.CanonicalText.{horizon_lines}
use Rattle.ddl_print.proofs.horizons.push_horizons.Given as goal

abbrev pub invariant-loop-horizon : goal.invariant-loop-horizon
invariant-loop-horizon l = l.text ≡ l.fn.text ++ flat_map horizon_lines (take l.horizon-index l.horizons)
