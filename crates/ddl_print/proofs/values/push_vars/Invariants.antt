use Rattle.std.proofs.Common.{◌≡◌, ◌++◌, flat_map, take}
use Rattle.hs_texts.specs.CanonicalText.{var_lines}
use Rattle.ddl_print.proofs.values.push_vars.Given as goal

abbrev pub invariant-loop-var : goal.invariant-loop-var
invariant-loop-var l = l.text ≡ l.fn.text ++ flat_map var_lines (take l.var-index l.vars)
