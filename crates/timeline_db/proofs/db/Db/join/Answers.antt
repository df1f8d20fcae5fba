use Rattle.std.proofs.Common.{◌<◌, suc, sym, refl, ap, subst, ◌∙◌, length, arith}
use Rattle.search_tree.specs.declared.part.Part.TheVariants.{Joined}
use Rattle.stn_trail.specs.Held.{points_of}
use Rattle.timeline_db.proofs.DoingLemmas.{can_join_in, joined_in, points_in, range_still, shut_in}
use Rattle.timeline_db.specs.Boards.{line_at}
use Rattle.timeline_db.specs.declared.board.Board.{Board}
use Rattle.timeline_db.specs.declared.course.Course.{Course}
use Rattle.timeline_db.proofs.db.Db.join.Goals as goal

pub make_join-requires : goal.make_join-requires
make_join-requires c =
    let can = can_join_in c.self.inside c.self.invariant c.args.self.now c.self.view_is c.args.sv c.args.place c.requires in
    record { before = can.before; after = can.after; small = can.small }

pub join-requires-clause-row : goal.join-requires-clause-row
join-requires-clause-row c =
    let can = can_join_in c.self.inside c.self.invariant c.args.self.now c.self.view_is c.args.sv c.args.place c.requires in
    subst (λ (x : Board). c.args.sv.0 < length x.lines.items) (sym c.in_ok-make_join.ensures.board) can.after.row

pub join-requires-clause-place : goal.join-requires-clause-place
join-requires-clause-place c =
    let can = can_join_in c.self.inside c.self.invariant c.args.self.now c.self.view_is c.args.sv c.args.place c.requires in
    subst (λ (x : Board). suc c.args.place < length (line_at x c.args.sv.0).tokens) (sym c.in_ok-make_join.ensures.board) can.after.place

pub join-requires-clause-room : goal.join-requires-clause-room
join-requires-clause-room c =
    let few = (points_in c.self.inside c.self.invariant).1 in
    omega (arith, ap (λ (x : Course). points_of x.trail) c.in_ok-make_join.ensures.course)

pub join-requires-clause-range : goal.join-requires-clause-range
join-requires-clause-range c =
    let can = can_join_in c.self.inside c.self.invariant c.args.self.now c.self.view_is c.args.sv c.args.place c.requires in
    range_still c.self.inside c.self.invariant c.args.self.now c.self.view_is (Joined c.args.sv c.args.place) c.requires c.make_join.new.self c.in_ok-make_join.ensures.board c.in_ok-make_join.ensures.course (c.in_ok-make_join.ensures.made ∙ can.made) refl

pub invariant_of-self-in-Ok : goal.invariant_of-self-in-Ok
invariant_of-self-in-Ok c =
    let can = can_join_in c.self.inside c.self.invariant c.args.self.now c.self.view_is c.args.sv c.args.place c.requires in
    joined_in c.self.inside c.self.invariant c.args.self.now c.self.view_is c.args.sv c.args.place c.requires c.make_join.new.self c.join.new.self c.in_ok-make_join.ensures.board c.in_ok-make_join.ensures.course (c.in_ok-make_join.ensures.made ∙ can.made) c.in-Ok.ensures.takes c.in-Ok.ensures.joins

pub returns-in-Err-clause-shut : goal.returns-in-Err-clause-shut
returns-in-Err-clause-shut c =
    let can = can_join_in c.self.inside c.self.invariant c.args.self.now c.self.view_is c.args.sv c.args.place c.requires in
    shut_in c.self.inside c.self.invariant c.args.self.now c.self.view_is (Joined c.args.sv c.args.place) c.requires c.make_join.new.self c.in_ok-make_join.ensures.board c.in_ok-make_join.ensures.course (c.in_ok-make_join.ensures.made ∙ can.made) c.in-Err.shut c.in-Err.ensures.none
