use Rattle.std.proofs.Common.{◌≡◌, ◌++◌, flat_map, take}
use Rattle.hs_texts.specs.CanonicalText.{answers_line}
use Rattle.ddl_print.proofs.scripts.push_all_answers.Given as goal

abbrev pub invariant-loop-words : goal.invariant-loop-words
invariant-loop-words l = l.text ≡ l.fn.text ++ flat_map answers_line (take l.words-index l.answers)
