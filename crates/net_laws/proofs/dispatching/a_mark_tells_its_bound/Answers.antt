use Rattle.net_laws.proofs.MarkLemmas.{origin_of, forget_origin, origin_tight}
use Rattle.net_laws.proofs.dispatching.a_mark_tells_its_bound.Goals as goal

pub returns : goal.returns
returns c = record {
  origin = origin_of;
  mark = forget_origin;
  tight = λ c net at n is now. origin_tight c net is at n now;
}
