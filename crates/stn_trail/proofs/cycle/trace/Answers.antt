use Rattle.std.proofs.Common.{arith}
use Rattle.std.proofs.lemmas.Int.{ints}
use Rattle.stn_trail.specs.Rounds.{cause_at}
use Rattle.stn_trail.proofs.RoundLemmas.{IsWay-more, IsRound-closed}
use Rattle.stn_trail.proofs.cycle.trace.Goals as goal

pub back-preserved : goal.back-preserved
back-preserved c =
    let b = c.in-Some.ensures in let w = c.back.invariant in
    let sum = c.in-Some-checked_add.ensures in
    rw c.in_ok-push-2.ensures.items (IsWay-more c.args.rows.now (cause_at c.args.rows.now c.args.causes.now) c.args.first c.back.way.items c.back.at _ c.in-Some.bound _ w c.if-at-first.false b.is b.start b.given (omega (arith, ints)))

pub returns-then-at-first : goal.returns-then-at-first
returns-then-at-first c = λ e.
    IsRound-closed c.args.rows.now (cause_at c.args.rows.now c.args.causes.now) c.args.first c.back.way.items c.back.at _ c.back.invariant c.if-at-first.true (omega (arith, ints))
