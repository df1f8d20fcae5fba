use Rattle.std.proofs.Common.{◌<◌, sym, refl, ap, subst, ◌∙◌, arith}
use Rattle.hs_base.specs.declared.plan.Plan.{Plan}
use Rattle.search_tree.specs.declared.part.Part.TheVariants.{Supported}
use Rattle.stn_trail.specs.Held.{points_of}
use Rattle.timeline_db.proofs.CallLemmas.{support_by, support_made, support_need, support_token, supported_in}
use Rattle.timeline_db.proofs.DoingLemmas.{points_in, range_still, shut_in}
use Rattle.timeline_db.specs.Boards.{HasToken, token_of}
use Rattle.timeline_db.specs.declared.board.Board.{Board}
use Rattle.timeline_db.specs.declared.course.Course.{Course}
use Rattle.timeline_db.proofs.db.Db.support.Goals as goal

pub make_support-requires-clause-token : goal.make_support-requires-clause-token
make_support-requires-clause-token c = support_token c.self.inside c.self.invariant c.args.self.now c.self.view_is c.args.support c.requires

pub make_support-requires-clause-by : goal.make_support-requires-clause-by
make_support-requires-clause-by c = support_by c.self.inside c.self.invariant c.args.self.now c.self.view_is c.args.support c.requires

pub support-requires-clause-token : goal.support-requires-clause-token
support-requires-clause-token c =
    subst (λ (x : Board). HasToken x c.args.support.token) (sym c.in_ok-make_support.ensures.board) (support_token c.self.inside c.self.invariant c.args.self.now c.self.view_is c.args.support c.requires)

pub support-requires-clause-by : goal.support-requires-clause-by
support-requires-clause-by c =
    subst (λ (x : Board). HasToken x c.args.support.by) (sym c.in_ok-make_support.ensures.board) (support_by c.self.inside c.self.invariant c.args.self.now c.self.view_is c.args.support c.requires)

pub support-requires-clause-need : goal.support-requires-clause-need
support-requires-clause-need c =
    subst (λ (x : Board). c.args.support.need < (token_of x c.args.support.token).needs) (sym c.in_ok-make_support.ensures.board) (support_need c.self.inside c.self.invariant c.args.self.now c.self.view_is c.args.support c.requires)

pub support-requires-clause-room : goal.support-requires-clause-room
support-requires-clause-room c =
    let few = (points_in c.self.inside c.self.invariant).1 in
    omega (arith, ap (λ (x : Course). points_of x.trail) c.in_ok-make_support.ensures.course)

pub support-requires-clause-range : goal.support-requires-clause-range
support-requires-clause-range c =
    let part = Supported c.args.support.token c.args.support.need c.args.support.by in
    range_still c.self.inside c.self.invariant c.args.self.now c.self.view_is part c.requires c.make_support.new.self c.in_ok-make_support.ensures.board c.in_ok-make_support.ensures.course
    (support_made c.self.inside c.self.invariant c.args.self.now c.self.view_is c.args.support c.requires c.make_support.new.self.made.items c.mission.result.now c.in_ok-make_support.ensures.made c.mission.ensures.mission) refl

pub invariant_of-self-in-Ok : goal.invariant_of-self-in-Ok
invariant_of-self-in-Ok c =
    supported_in c.self.inside c.self.invariant c.args.self.now c.self.view_is c.args.support c.requires c.make_support.new.self c.support.new.self c.in_ok-make_support.ensures.board c.in_ok-make_support.ensures.course
    (support_made c.self.inside c.self.invariant c.args.self.now c.self.view_is c.args.support c.requires c.make_support.new.self.made.items c.mission.result.now c.in_ok-make_support.ensures.made c.mission.ensures.mission)
    c.in-Ok.ensures.takes c.as_slice.result.now (c.as_slice.ensures ∙ ap (λ (x : Plan). x.extensions) c.plan.ensures.plan) c.in-Ok.ensures.serves

pub returns-in-Err-clause-shut : goal.returns-in-Err-clause-shut
returns-in-Err-clause-shut c =
    let part = Supported c.args.support.token c.args.support.need c.args.support.by in
    shut_in c.self.inside c.self.invariant c.args.self.now c.self.view_is part c.requires c.make_support.new.self c.in_ok-make_support.ensures.board c.in_ok-make_support.ensures.course
    (support_made c.self.inside c.self.invariant c.args.self.now c.self.view_is c.args.support c.requires c.make_support.new.self.made.items c.mission.result.now c.in_ok-make_support.ensures.made c.mission.ensures.mission)
    c.in-Err.shut c.in-Err.ensures.none
