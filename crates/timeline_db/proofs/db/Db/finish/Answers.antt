use Rattle.std.proofs.Common.{◌<◌, sym, refl, ap, subst, length, arith}
use Rattle.std.proofs.lemmas.Int.{ints}
use Rattle.search_tree.specs.declared.part.Part.TheVariants.{Finished}
use Rattle.stn_trail.specs.Held.{points_of}
use mir.Syntax.{w64}
use mir.Val.{of_z, to_z}
use Rattle.timeline_db.proofs.DoingLemmas.{begun_in, can_finish_in, finish_made_in, finished_in, points_in, range_still, shut_in, tick_in}
use Rattle.timeline_db.specs.declared.board.Board.{Board}
use Rattle.timeline_db.specs.declared.course.Course.{Course}
use Rattle.timeline_db.proofs.db.Db.finish.Goals as goal

pub make_finish-requires : goal.make_finish-requires
make_finish-requires c =
    let i = c.self.inside in
    let can = can_finish_in c.self.inside c.self.invariant c.args.self.now c.self.view_is c.args.sv c.requires in
    let t = tick_in i.base.mission (begun_in i) i.tick i.draft.board i.draft.course.steps.items i.draft.course.trail c.self.invariant in
    record { row = can.row; tick = (omega (arith, ints, t.0, t.1), omega (arith, ints, t.0, t.1)); some = can.some }

pub finish-requires-clause-row : goal.finish-requires-clause-row
finish-requires-clause-row c =
    let can = can_finish_in c.self.inside c.self.invariant c.args.self.now c.self.view_is c.args.sv c.requires in
    subst (λ (x : Board). c.args.sv.0 < length x.lines.items) (sym c.in_ok-make_finish.ensures.board) can.row

pub finish-requires-clause-room : goal.finish-requires-clause-room
finish-requires-clause-room c =
    let few = (points_in c.self.inside c.self.invariant).1 in
    omega (arith, ap (λ (x : Course). points_of x.trail) c.in_ok-make_finish.ensures.course)

pub finish-requires-clause-range : goal.finish-requires-clause-range
finish-requires-clause-range c =
    let i = c.self.inside in
    let t = tick_in i.base.mission (begun_in i) i.tick i.draft.board i.draft.course.steps.items i.draft.course.trail c.self.invariant in
    let made = finish_made_in i c.self.invariant c.args.self.now c.self.view_is c.args.sv c.requires _ (to_z w64 (of_z w64 i.tick)) c.in_ok-make_finish.ensures.made (omega (arith, ints, t.0, t.1)) in
    range_still i c.self.invariant c.args.self.now c.self.view_is (Finished c.args.sv) c.requires c.make_finish.new.self c.in_ok-make_finish.ensures.board c.in_ok-make_finish.ensures.course made refl

pub invariant_of-self-in-Ok : goal.invariant_of-self-in-Ok
invariant_of-self-in-Ok c =
    let i = c.self.inside in
    let t = tick_in i.base.mission (begun_in i) i.tick i.draft.board i.draft.course.steps.items i.draft.course.trail c.self.invariant in
    let made = finish_made_in i c.self.invariant c.args.self.now c.self.view_is c.args.sv c.requires _ (to_z w64 (of_z w64 i.tick)) c.in_ok-make_finish.ensures.made (omega (arith, ints, t.0, t.1)) in
    finished_in i c.self.invariant c.args.self.now c.self.view_is c.args.sv c.requires c.make_finish.new.self c.finish.new.self c.in_ok-make_finish.ensures.board c.in_ok-make_finish.ensures.course made c.in-Ok.ensures.takes c.in-Ok.ensures.finishes

pub returns-in-Err-clause-shut : goal.returns-in-Err-clause-shut
returns-in-Err-clause-shut c =
    let i = c.self.inside in
    let t = tick_in i.base.mission (begun_in i) i.tick i.draft.board i.draft.course.steps.items i.draft.course.trail c.self.invariant in
    let made = finish_made_in i c.self.invariant c.args.self.now c.self.view_is c.args.sv c.requires _ (to_z w64 (of_z w64 i.tick)) c.in_ok-make_finish.ensures.made (omega (arith, ints, t.0, t.1)) in
    shut_in i c.self.invariant c.args.self.now c.self.view_is (Finished c.args.sv) c.requires c.make_finish.new.self c.in_ok-make_finish.ensures.board c.in_ok-make_finish.ensures.course made c.in-Err.shut c.in-Err.ensures.none
