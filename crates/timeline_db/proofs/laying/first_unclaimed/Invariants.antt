use Rattle.std.proofs.Common.{ℕ, ◌≡◌, ◌<◌, true}
use Rattle.std.specs.List.{list_any}
use Rattle.hs_base.specs.Checked.{supports_of}
use Rattle.timeline_db.specs.Claims.{is_claim}
use Rattle.timeline_db.proofs.laying.first_unclaimed.Given as goal

abbrev pub invariant-loop-need : goal.invariant-loop-need
invariant-loop-need l = (j : ℕ) → j < l.need → list_any (is_claim l.name j) (supports_of l.extensions) ≡ true
