use Rattle.std.proofs.Common.{◌<◌, sym, refl, ap, subst, ◌∙◌, arith}
use Rattle.hs_base.specs.declared.plan.Plan.{Plan}
use Rattle.search_tree.specs.declared.part.Part.TheVariants.{Deferred}
use Rattle.stn_trail.specs.Held.{points_of}
use Rattle.timeline_db.proofs.CallLemmas.{defer_need, defer_token, deferred_in}
use Rattle.timeline_db.proofs.DoingLemmas.{points_in, range_still, shut_in}
use Rattle.timeline_db.specs.Boards.{HasToken, token_of}
use Rattle.timeline_db.specs.declared.board.Board.{Board}
use Rattle.timeline_db.specs.declared.course.Course.{Course}
use Rattle.timeline_db.proofs.db.Db.defer.Goals as goal

pub defer-requires-clause-token : goal.defer-requires-clause-token
defer-requires-clause-token c =
    subst (λ (x : Board). HasToken x c.args.token) (sym c.make_none.ensures.board) (defer_token c.self.inside c.self.invariant c.args.self.now c.self.view_is c.args.token c.args.need c.requires)

pub defer-requires-clause-need : goal.defer-requires-clause-need
defer-requires-clause-need c =
    subst (λ (x : Board). c.args.need < (token_of x c.args.token).needs) (sym c.make_none.ensures.board) (defer_need c.self.inside c.self.invariant c.args.self.now c.self.view_is c.args.token c.args.need c.requires)

pub defer-requires-clause-room : goal.defer-requires-clause-room
defer-requires-clause-room c =
    let few = (points_in c.self.inside c.self.invariant).1 in
    omega (arith, ap (λ (x : Course). points_of x.trail) c.make_none.ensures.course)

pub defer-requires-clause-range : goal.defer-requires-clause-range
defer-requires-clause-range c =
    range_still c.self.inside c.self.invariant c.args.self.now c.self.view_is (Deferred c.args.token c.args.need) c.requires c.make_none.new.self c.make_none.ensures.board c.make_none.ensures.course c.make_none.ensures.made refl

pub invariant_of-self : goal.invariant_of-self
invariant_of-self c =
    deferred_in c.self.inside c.self.invariant c.args.self.now c.self.view_is c.args.token c.args.need c.requires c.make_none.new.self c.defer.new.self c.make_none.ensures.board c.make_none.ensures.course c.make_none.ensures.made
    c.in-Ok.ensures.takes c.as_slice.result.now (c.as_slice.ensures ∙ ap (λ (x : Plan). x.extensions) c.plan.ensures.plan) c.in-Ok.ensures.serves

pub returns-in-Err-clause-shut : goal.returns-in-Err-clause-shut
returns-in-Err-clause-shut c =
    shut_in c.self.inside c.self.invariant c.args.self.now c.self.view_is (Deferred c.args.token c.args.need) c.requires c.make_none.new.self c.make_none.ensures.board c.make_none.ensures.course c.make_none.ensures.made c.in-Err.shut c.in-Err.ensures.none
