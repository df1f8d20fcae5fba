use Rattle.std.proofs.Common.{◌≡◌, ◌≤◌, take}
use Rattle.hs_texts.specs.Pieces.{number_of}
use Rattle.ddl_read.proofs.number.number_of.Given as goal

abbrev pub invariant-digits : goal.invariant-digits
invariant-digits l = (l.number ≡ number_of (take l.digit-index l.digits)) × (l.number ≤ 1000000000)
