use Rattle.std.proofs.Common.{◌∙◌, ap, subst, sym, List, [], ℤ, Option, IfSome}
use Rattle.hs_base.specs.declared.net.Bound.{Bound}
use Rattle.hs_base.specs.Schedule.{time_of, Holds, Meets}
use Rattle.stn_distance.proofs.CauseLemmas.{HasNoSchedule-from_cycle}
use Rattle.stn_trail.specs.Rows.{row_at}
use Rattle.stn_trail.specs.Rounds.{IsRound}
use Rattle.stn_trail.specs.Found.{Finds}
use Rattle.stn_trail.specs.Held.{added}
use Rattle.stn_trail.specs.History.{parts_of}
use Rattle.stn_trail.proofs.CoveredLemmas.{AreCovered-kept}
use Rattle.stn_trail.proofs.SettleLemmas.{AreRows-in_range, Meets-covered, IsNegativeCycle-round, Contains-last}
use Rattle.stn_trail.proofs.settle.settle.Goals as goal

pub raise_last-requires-clause-rows : goal.raise_last-requires-clause-rows
raise_last-requires-clause-rows c = AreRows-in_range c.args.points (added (parts_of c.args.steps.now)) c.args.rows.now c.requires.rows c.requires.range c.requires.room.0

pub closed-requires-clause-rows : goal.closed-requires-clause-rows
closed-requires-clause-rows c = AreRows-in_range c.args.points (added (parts_of c.args.steps.now)) c.args.rows.now c.requires.rows c.requires.range c.requires.room.0

pub closed-requires-clause-added : goal.closed-requires-clause-added
closed-requires-clause-added c = Contains-last (row_at c.args.rows.now c.args.bound.to.0) c.args.bound c.requires.last

pub returns-in-Kept-clause-schedule : goal.returns-in-Kept-clause-schedule
returns-in-Kept-clause-schedule c =
    Meets-covered c.args.points (added (parts_of c.args.steps.now)) c.args.rows.now _ c.requires.rows c.requires.range c.requires.room.0
    (subst (Finds c.args.rows.now c.raise_last.new.times.ticks.items []) c.in-Kept.is c.in_ok-raise_last.ensures.found)
    (c.raise_last.ensures.origin ∙ ap (λ (xs : List ℤ). time_of xs 0) c.anchor.ensures.same ∙ c.requires.origin)

pub returns-in-Some-clause-cycle : goal.returns-in-Some-clause-cycle
returns-in-Some-clause-cycle c = IsNegativeCycle-round (added (parts_of c.args.steps.now)) c.args.rows.now c.in-Some.cycle c.requires.rows
    (subst (λ (o : Option (List Bound)). IfSome o (IsRound c.args.rows.now)) c.in-Some.is c.in_ok-cycle-in-Back.ensures)

pub returns-in-Some-clause-none : goal.returns-in-Some-clause-none
returns-in-Some-clause-none c = HasNoSchedule-from_cycle (added (parts_of c.args.steps.now)) c.in-Some.cycle (returns-in-Some-clause-cycle c)

-- a bound that is kept as the times are moves nothing
pub returns-then-is_kept-clause-schedule : goal.returns-then-is_kept-clause-schedule
returns-then-is_kept-clause-schedule c =
    let same = c.anchor.ensures.same in
    let kept = subst (λ (xs : List ℤ). Holds (time_of xs) c.args.bound) same (c.is_kept.ensures c.if-is_kept.true) in
    subst (λ (xs : List ℤ). Meets (added (parts_of c.args.steps.now)) (time_of xs)) (sym same)
    (Meets-covered c.args.points (added (parts_of c.args.steps.now)) c.args.rows.now _ c.requires.rows c.requires.range c.requires.room.0
    (AreCovered-kept c.args.rows.now _ [] c.args.bound [] c.requires.covered kept) c.requires.origin)
