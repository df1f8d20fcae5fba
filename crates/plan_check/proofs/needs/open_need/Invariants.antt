use Rattle.std.proofs.Common.{◌≡◌, ℕ, ◌<◌, take, length}
use Rattle.std.specs.Prelude.{filter}
use Rattle.hs_base.specs.Needs.{same_kind, needs_of}
use Rattle.plan_check.specs.Open.{IsOpen}
use Rattle.plan_check.proofs.needs.open_need.Given as goal

abbrev pub invariant-loop-need : goal.invariant-loop-need
invariant-loop-need l = record {
  number : l.number ≡ length (filter (λ n. same_kind n.of l.kind) (take l.need-index l.mission.needs));
  none : (j : ℕ) → j < l.number → IsOpen (needs_of l.mission l.kind) l.claims.set l.token l.last j → ⊥;
}
