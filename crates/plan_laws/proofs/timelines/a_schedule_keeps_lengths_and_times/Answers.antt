use Rattle.plan_laws.proofs.LengthLemmas.{lengths_in, points_in}
use Rattle.plan_laws.proofs.timelines.a_schedule_keeps_lengths_and_times.Goals as goal

pub returns : goal.returns
returns c = record { lengths = λ m es s h v i k val at is. (lengths_in m s es h).each v i k val at is; points = λ m es s h x some below. (points_in m s es h).each x some below }
