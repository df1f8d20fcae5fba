use Rattle.plan_laws.proofs.SpanLemmas.{starts_in, ends_in}
use Rattle.plan_laws.proofs.timelines.a_schedule_spans_the_horizons.Goals as goal

pub returns : goal.returns
returns c = record { starts = λ m es s mission h g v i is below. (starts_in m s es mission h).each g v i is below; ends = λ m es s h g v i is below last. (ends_in m s es h).each g v i is below last }
