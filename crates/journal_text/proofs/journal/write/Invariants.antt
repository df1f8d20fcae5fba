use Rattle.std.proofs.Common.{◌≡◌, ◌++◌, [], take, codes}
use Rattle.hs_base.specs.Walks.{join_after}
use Rattle.log_laws.specs.LogText.{entry_text}
use Rattle.journal_text.specs.Stands.{StandsAt}
use Rattle.journal_text.proofs.journal.write.Given as goal

abbrev pub invariant-loop-entry : goal.invariant-loop-entry
invariant-loop-entry l =
    StandsAt l.progress.tick l.progress.index (take l.entry-index l.history)
    × (l.text ≡ codes "hsts log 1\n" ++ join_after (entry_text l.mission) [] (take l.entry-index l.history))
