use Rattle.std.proofs.Common.{List, sym, subst}
use Rattle.hs_base.specs.declared.net.Bound.{Bound}
use Rattle.stn_distance.specs.Ranges.{StaysInTime}
use Rattle.bench_networks.proofs.timing.measure.Goals as goal

pub close_fixed-requires-clause-stays : goal.close_fixed-requires-clause-stays
close_fixed-requires-clause-stays g c = subst (λ (bounds : List Bound). StaysInTime c.args.points bounds) (sym c.deref.ensures.value) c.in_ok-bounds.ensures.stays
