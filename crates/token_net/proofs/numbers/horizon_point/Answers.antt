use Rattle.std.proofs.Common.{◌-◌, take, ap, arith}
use Rattle.hs_base.specs.Points.{count}
use Rattle.token_net.proofs.NumberLemmas.{count_below, mark_of}
use Rattle.token_net.proofs.numbers.horizon_point.Goals as goal

pub points_of_all-requires : goal.points_of_all-requires
points_of_all-requires c = omega (arith, count_below c.args.plan.now.extensions (c.args.k - 1), ap (λ l. count (take (c.args.k - 1) l)) c.as_slice.ensures, c.requires.small)

pub returns : goal.returns
returns c =
    omega (arith, mark_of c.args.plan.now.extensions c.args.k c.requires.first c.requires.last, ap (λ l. count (take (c.args.k - 1) l)) c.as_slice.ensures, c.points_of_all.ensures)
