use Rattle.stn_distance.proofs.CauseLemmas.{IsNegativeCycle-from_round, HasNoSchedule-from_cycle, not_low}
use Rattle.stn_distance.proofs.search.turn_over.Goals as goal
use lib.Signed.{clash_ℤ}

pub unreachable-requires : goal.unreachable-requires
unreachable-requires c =
    let r = rw c.in-None-2.is at c.in_ok-round-in-TooLow.ensures.rooted in
    let e = c.in-TooLow.ensures.found.1 in
    let n = not_low c.args.count c.args.bounds.now c.lower_all.new.times c.lower_all.new.causes c.in-TooLow.point c.in-TooLow.ensures.explained c.requires.range r in
    clash_ℤ {X = ⊥} e n

pub returns-in-Some : goal.returns-in-Some
returns-in-Some c =
    let r = rw c.in-Some.is at c.in_ok-round-in-Lowered.ensures.round in
    let n = IsNegativeCycle-from_round c.args.count c.args.bounds.now c.lower_all.new.times c.lower_all.new.causes c.in-Some.round.items c.in-Lowered.ensures.explained r in
    (n, HasNoSchedule-from_cycle c.args.bounds.now c.in-Some.round.items n)

pub returns-in-Some-2 : goal.returns-in-Some-2
returns-in-Some-2 c =
    let r = rw c.in-Some-2.is at c.in_ok-round-in-TooLow.ensures.round in
    let n = IsNegativeCycle-from_round c.args.count c.args.bounds.now c.lower_all.new.times c.lower_all.new.causes c.in-Some-2.round.items c.in-TooLow.ensures.explained r in
    (n, HasNoSchedule-from_cycle c.args.bounds.now c.in-Some-2.round.items n)
