use Rattle.std.proofs.Common.{◌≡◌, length}
use Rattle.plan_text.specs.Loops.{with_front}
use Rattle.plan_text.specs.PlanReading.{series}
use Rattle.log_laws.specs.LogGrammar.{plan_behind}
use Rattle.journal_read.specs.LogReading.{is_entry, entry_at, entries_at}
use Rattle.journal_read.proofs.log.entries.Given as goal

abbrev pub invariant-entries : goal.invariant-entries
invariant-entries l = (l.plan.mission ≡ l.mission) × with_front l.entries (series is_entry (entry_at l.mission) plan_behind l.plan.extensions l.reader) ≡ entries_at l.mission l.fn.reader

abbrev pub decreases-entries : goal.decreases-entries
decreases-entries l = length l.reader
