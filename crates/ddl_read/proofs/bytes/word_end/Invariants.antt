use Rattle.std.proofs.Common.{◌≡◌, true, slice_range}
use Rattle.std.specs.List.{list_all}
use Rattle.hs_texts.specs.Pieces.{is_word_byte}
use Rattle.ddl_read.proofs.bytes.word_end.Given as goal

abbrev pub invariant-word : goal.invariant-word
invariant-word l = list_all is_word_byte (slice_range l.text l.at l.end) ≡ true
