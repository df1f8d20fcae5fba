use Rattle.std.proofs.Common.{◌≡◌, ◌++◌, map, flat_map, take}
use Rattle.hs_texts.specs.declared.ast.AstValue.{AstValue}
use Rattle.hs_texts.specs.declared.ast.AstVar.{AstVar}
use Rattle.hs_texts.specs.MissionRefusals.{is_no_duration}
use Rattle.domain_check.proofs.ranges.push_vars.Given as goal

abbrev pub invariant-loop-var : goal.invariant-loop-var
invariant-loop-var l = l.bad ≡ l.fn.bad ++ map is_no_duration (flat_map (λ (var : AstVar). flat_map (λ (v : AstValue). v.lasts) var.values) (take l.var-index l.vars))
