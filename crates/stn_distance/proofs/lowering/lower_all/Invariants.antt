use Rattle.std.proofs.Common.{ℕ, ◌<◌, ◌≤◌, length, MatchOption}
use Rattle.hs_base.specs.Schedule.{time_of, Holds}
use Rattle.stn_distance.specs.Causes.{Explained, IsAboveFloor, slack, bound_at, place}
use Rattle.stn_distance.proofs.lowering.lower_all.Given as goal

abbrev pub invariant-loop-step : goal.invariant-loop-step
invariant-loop-step l = record {
  explained : Explained l.count l.bounds l.times l.causes;
  floor : IsAboveFloor l.count l.times;
  less : slack l.count l.times ≤ slack l.count l.initial.times;
  so_far : MatchOption l.lowered ((k : ℕ) → k < l.step → Holds (time_of l.times) (bound_at l.bounds (place l.backward (length l.bounds) k))) (λ p. (p < l.count) × (slack l.count l.times < slack l.count l.initial.times));
}
