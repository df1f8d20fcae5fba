use Rattle.std.proofs.Common.{◌≡◌, ◌++◌, flat_map, take}
use Rattle.hs_texts.specs.CanonicalText.{need_line}
use Rattle.ddl_print.proofs.needs.push_needs.Given as goal

abbrev pub invariant-loop-need : goal.invariant-loop-need
invariant-loop-need l = l.text ≡ l.fn.text ++ flat_map need_line (take l.need-index l.needs)
