use Rattle.std.proofs.Common.{◌≡◌, map, take}
use Rattle.domain_check.specs.Numbering.{choice_of}
use Rattle.domain_check.proofs.grounded.choices_of.Given as goal

abbrev pub invariant-loop-choice : goal.invariant-loop-choice
invariant-loop-choice l = l.made ≡ map (choice_of l.tables.written.now) (take l.choice-index l.choices)
