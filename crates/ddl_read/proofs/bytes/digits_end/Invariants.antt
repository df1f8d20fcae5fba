use Rattle.std.proofs.Common.{◌≡◌, true, slice_range}
use Rattle.std.specs.List.{list_all}
use Rattle.hs_texts.specs.Pieces.{is_digit}
use Rattle.ddl_read.proofs.bytes.digits_end.Given as goal

abbrev pub invariant-digits : goal.invariant-digits
invariant-digits l = list_all is_digit (slice_range l.text l.at l.end) ≡ true
