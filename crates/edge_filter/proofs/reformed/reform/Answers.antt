use Rattle.std.proofs.Common.{List, subst}
use Rattle.std.specs.Prelude.{◌↔◌}
use Rattle.hs_base.specs.declared.net.Bound.{Bound}
use Rattle.hs_base.specs.Network.{Admits}
use Rattle.hs_base.specs.Schedule.{Meets}
use Rattle.edge_filter.proofs.reformed.reform.Goals as goal

pub returns-clause-exact : goal.returns-clause-exact
returns-clause-exact c s = subst (λ (bs : List Bound). Admits c.in_ok-net.net s ↔ Meets bs s) c.in_ok-dist.ensures.bounds (c.in_ok-net.ensures.exact s)
