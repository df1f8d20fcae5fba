use Rattle.std.proofs.Common.{◌≡◌, take}
use Rattle.plan_index.specs.Contents.{contents_of}
use Rattle.journal_read.specs.LogSpelling.{plan_in}
use Rattle.journal_read.proofs.naming.index_of.Given as goal

abbrev pub invariant-loop-entry : goal.invariant-loop-entry
invariant-loop-entry l = l.index ≡ contents_of (plan_in (take l.entry-index l.noted))
