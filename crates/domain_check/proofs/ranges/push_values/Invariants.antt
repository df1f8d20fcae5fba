use Rattle.std.proofs.Common.{◌≡◌, ◌++◌, map, flat_map, take}
use Rattle.hs_texts.specs.declared.ast.AstValue.{AstValue}
use Rattle.hs_texts.specs.MissionRefusals.{is_no_duration}
use Rattle.domain_check.proofs.ranges.push_values.Given as goal

abbrev pub invariant-loop-value : goal.invariant-loop-value
invariant-loop-value l = l.bad ≡ l.fn.bad ++ map is_no_duration (flat_map (λ (v : AstValue). v.lasts) (take l.value-index l.values))
