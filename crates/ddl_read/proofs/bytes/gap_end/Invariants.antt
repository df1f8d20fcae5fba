use Rattle.std.proofs.Common.{◌≡◌, false, drop}
use Rattle.hs_texts.specs.Pieces.{after_gap}
use Rattle.ddl_read.proofs.bytes.gap_end.Given as goal

abbrev pub invariant-gap : goal.invariant-gap
invariant-gap l = after_gap false (drop l.at l.text) ≡ after_gap l.inside (drop l.end l.text)
