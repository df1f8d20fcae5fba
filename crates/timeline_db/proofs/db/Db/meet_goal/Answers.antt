use Rattle.std.proofs.Common.{◌<◌, sym, refl, ap, subst, ◌∙◌, length, arith}
use Rattle.plan_index.specs.Contents.{Contents}
use Rattle.search_tree.specs.declared.part.Part.TheVariants.{MetGoal}
use Rattle.stn_trail.specs.Held.{points_of}
use Rattle.timeline_db.proofs.CallLemmas.{goal_by, goal_made, goal_there, met_in}
use Rattle.timeline_db.proofs.DoingLemmas.{points_in, range_still, shut_in}
use Rattle.timeline_db.specs.Boards.{HasToken}
use Rattle.timeline_db.specs.declared.board.Board.{Board}
use Rattle.timeline_db.specs.declared.course.Course.{Course}
use Rattle.timeline_db.proofs.db.Db.meet_goal.Goals as goal

pub make_goal-requires-clause-by : goal.make_goal-requires-clause-by
make_goal-requires-clause-by c = goal_by c.self.inside c.self.invariant c.args.self.now c.self.view_is c.args.goal c.args.by c.requires

pub meet_goal-requires-clause-goal : goal.meet_goal-requires-clause-goal
meet_goal-requires-clause-goal c =
    subst (λ (x : Board). c.args.goal < length x.goals.items) (sym c.in_ok-make_goal.ensures.board) (goal_there c.self.inside c.self.invariant c.args.self.now c.self.view_is c.args.goal c.args.by c.requires)

pub meet_goal-requires-clause-by : goal.meet_goal-requires-clause-by
meet_goal-requires-clause-by c =
    subst (λ (x : Board). HasToken x c.args.by) (sym c.in_ok-make_goal.ensures.board) (goal_by c.self.inside c.self.invariant c.args.self.now c.self.view_is c.args.goal c.args.by c.requires)

pub meet_goal-requires-clause-room : goal.meet_goal-requires-clause-room
meet_goal-requires-clause-room c =
    let few = (points_in c.self.inside c.self.invariant).1 in
    omega (arith, ap (λ (x : Course). points_of x.trail) c.in_ok-make_goal.ensures.course)

pub meet_goal-requires-clause-range : goal.meet_goal-requires-clause-range
meet_goal-requires-clause-range c =
    let many = c.horizons-number.ensures ∙ ap (λ (x : Contents). x.horizons) c.index.ensures in
    range_still c.self.inside c.self.invariant c.args.self.now c.self.view_is (MetGoal c.args.goal c.args.by) c.requires c.make_goal.new.self c.in_ok-make_goal.ensures.board c.in_ok-make_goal.ensures.course
    (goal_made c.self.inside c.self.invariant c.args.self.now c.self.view_is c.args.goal c.args.by c.requires c.make_goal.new.self.made.items c.mission.result.now c.horizons-number.result c.in_ok-make_goal.ensures.made c.mission.ensures.mission many) refl

pub invariant_of-self-in-Ok : goal.invariant_of-self-in-Ok
invariant_of-self-in-Ok c =
    let many = c.horizons-number.ensures ∙ ap (λ (x : Contents). x.horizons) c.index.ensures in
    met_in c.self.inside c.self.invariant c.args.self.now c.self.view_is c.args.goal c.args.by c.requires c.make_goal.new.self c.meet_goal.new.self c.in_ok-make_goal.ensures.board c.in_ok-make_goal.ensures.course
    (goal_made c.self.inside c.self.invariant c.args.self.now c.self.view_is c.args.goal c.args.by c.requires c.make_goal.new.self.made.items c.mission.result.now c.horizons-number.result c.in_ok-make_goal.ensures.made c.mission.ensures.mission many)
    c.in-Ok.ensures.takes c.in-Ok.ensures.meets

pub returns-in-Err-clause-shut : goal.returns-in-Err-clause-shut
returns-in-Err-clause-shut c =
    let many = c.horizons-number.ensures ∙ ap (λ (x : Contents). x.horizons) c.index.ensures in
    shut_in c.self.inside c.self.invariant c.args.self.now c.self.view_is (MetGoal c.args.goal c.args.by) c.requires c.make_goal.new.self c.in_ok-make_goal.ensures.board c.in_ok-make_goal.ensures.course
    (goal_made c.self.inside c.self.invariant c.args.self.now c.self.view_is c.args.goal c.args.by c.requires c.make_goal.new.self.made.items c.mission.result.now c.horizons-number.result c.in_ok-make_goal.ensures.made c.mission.ensures.mission many)
    c.in-Err.shut c.in-Err.ensures.none
