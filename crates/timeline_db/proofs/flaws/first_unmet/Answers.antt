use Rattle.std.proofs.Common.{◌≡◌, ◌+◌, ap, ◌∙◌, arith}
use Rattle.std.proofs.lemmas.Option.{slice_get_within}
use Rattle.search_tree.specs.Flaws.{goal_flaws}
use Rattle.timeline_db.proofs.FlawLemmas.{goal_more, goal_none, goal_open, none_flat}
use Rattle.timeline_db.proofs.flaws.first_unmet.Goals as goal

pub returns-then-is_none : goal.returns-then-is_none
returns-then-is_none c = goal_open c.args.goals.now c.loop-number.number (goal_none c.args.goals.now c.loop-number.number c.is_none.result c.loop-number-test.true c.is_none.ensures c.if-is_none.true) c.loop-number.invariant

pub loop-number-preserved : goal.loop-number-preserved
loop-number-preserved c = goal_more c.args.goals.now c.loop-number.number c.is_none.result c.loop-number-test.true c.is_none.ensures c.if-is_none.false c.loop-number.invariant

pub returns : goal.returns
returns c = none_flat goal_flaws 0 c.args.goals.now (λ j o is.
    let zero_plus : 0 + j ≡ j = omega arith in
    ap (λ n. goal_flaws n o) zero_plus ∙ c.loop-number.invariant j o (let past = c.loop-number-test.false in omega (arith, slice_get_within c.args.goals.now j o is)) is)
