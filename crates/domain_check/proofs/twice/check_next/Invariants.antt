use Rattle.std.proofs.Common.{◌≡◌, [], drop}
use Rattle.hs_base.specs.Walks.{join_after}
use Rattle.hs_texts.specs.MissionRefusals.{again}
use Rattle.domain_check.specs.Tables.{names_in, names_of_uses}
use Rattle.domain_check.proofs.twice.check_next.Given as goal

abbrev pub invariant-loop-value : goal.invariant-loop-value
invariant-loop-value l = join_after again [] (names_of_uses l.next) ≡ join_after again (names_in l.names) (names_of_uses (drop l.value-index l.next))
