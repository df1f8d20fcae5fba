use Rattle.std.proofs.Common.{◌≡◌, false, nat_eq, take}
use Rattle.std.specs.List.{list_any}
use Rattle.std.specs.Cmp.Lexicographic.{pointwise}
use Rattle.ddl_read.proofs.name.is_one_of.Given as goal

abbrev pub invariant-words : goal.invariant-words
invariant-words l = list_any (λ w. pointwise nat_eq l.word w.now) (take l.other-index l.words) ≡ false
