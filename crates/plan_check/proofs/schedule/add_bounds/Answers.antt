use Rattle.std.proofs.Common.{◌≡◌, ◌∙◌, ℕ, pos, sym, subst, get_or}
use Rattle.hs_base.specs.declared.net.Bound.{Bound}
use Rattle.hs_base.specs.Schedule.{bound}
use Rattle.stn_distance.specs.Ranges.{IsInRange}
use Rattle.plan_check.proofs.TrailLemmas.{bounds_more, cycle_at}
use Rattle.plan_check.proofs.schedule.add_bounds.Goals as goal

abbrev pub no_bound : Bound
no_bound = bound 0 0 (pos 0)

pub add-requires : goal.add-requires
add-requires c =
    let i = c.loop-bound.bound-index in
    subst (λ (n : ℕ). IsInRange n (get_or c.args.bounds.now i no_bound)) (sym c.loop-bound.invariant.points) (c.requires.range i no_bound c.loop-bound-test.true)

pub returns-in-Err-clause-cycle : goal.returns-in-Err-clause-cycle
returns-in-Err-clause-cycle c =
    cycle_at c.args.bounds.now c.loop-bound.bound-index no_bound c.args.trail.now c.loop-bound.trail c.in-Err.broken c.loop-bound-test.true c.loop-bound.invariant.bounds c.in-Err.ensures.cycle

pub loop-bound-preserved : goal.loop-bound-preserved
loop-bound-preserved c = record {
  points = c.add.ensures.points ∙ c.loop-bound.invariant.points;
  bounds = bounds_more c.args.bounds.now c.loop-bound.bound-index no_bound c.args.trail.now c.loop-bound.trail c.add.new.self c.loop-bound-test.true c.loop-bound.invariant.bounds c.in_default.ensures.added;
}
