use Rattle.std.proofs.Common.{◌≡◌, map, take}
use Rattle.domain_check.specs.Numbering.{var_of}
use Rattle.domain_check.specs.Tables.{names_in}
use Rattle.domain_check.proofs.grounded.vars_of.Given as goal

abbrev pub invariant-loop-i : goal.invariant-loop-i
invariant-loop-i l = l.made ≡ map (var_of (names_in l.words)) (take l.i l.written)
