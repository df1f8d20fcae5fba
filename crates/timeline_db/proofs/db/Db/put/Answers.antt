use Rattle.std.proofs.Common.{sym, refl, ap, subst, ◌∙◌, length, arith}
use Rattle.std.proofs.lemmas.Int.{ints}
use Rattle.hs_base.specs.Needs.{needs_of}
use Rattle.hs_base.specs.declared.mission.Mission.{Mission}
use Rattle.stn_trail.specs.Held.{points_of}
use mir.Syntax.{w64}
use mir.Val.{of_z, to_z}
use Rattle.timeline_db.proofs.DoingLemmas.{begun_in, can_in, counts_in, made_in, put_in, range_in, shut_in, tick_in}
use Rattle.timeline_db.specs.Boards.{HasPlace}
use Rattle.timeline_db.specs.declared.board.Board.{Board}
use Rattle.timeline_db.specs.declared.course.Course.{Course}
use Rattle.timeline_db.proofs.db.Db.put.Goals as goal

pub make_cell-requires-clause-tick : goal.make_cell-requires-clause-tick
make_cell-requires-clause-tick c =
    let i = c.self.inside in
    let t = tick_in i.base.mission (begun_in i) i.tick i.draft.board i.draft.course.steps.items i.draft.course.trail c.self.invariant in
    (omega (arith, ints, t.0, t.1), omega (arith, ints, t.0, t.1))

pub put-requires-clause-place : goal.put-requires-clause-place
put-requires-clause-place c =
    let can = can_in c.self.inside c.self.invariant c.args.self.now c.self.view_is c.args.part c.requires.may c.args.sv c.args.place c.args.cell c.args.grown c.requires.puts in
    subst (λ (x : Board). HasPlace x c.args.sv.0 c.args.place) (sym c.in_ok-make_cell.ensures.board) can.place

pub put-requires-clause-points : goal.put-requires-clause-points
put-requires-clause-points c =
    let can = can_in c.self.inside c.self.invariant c.args.self.now c.self.view_is c.args.part c.requires.may c.args.sv c.args.place c.args.cell c.args.grown c.requires.puts in
    let counts = counts_in c.self.inside c.self.invariant c.args.self.now c.self.view_is c.requires.room in
    let few = can.few in
    let points = counts.points_few in
    omega (arith, ap (λ (x : Board). x.points) c.in_ok-make_cell.ensures.board)

pub put-requires-clause-total : goal.put-requires-clause-total
put-requires-clause-total c =
    let counts = counts_in c.self.inside c.self.invariant c.args.self.now c.self.view_is c.requires.room in
    let total = counts.total_few in
    omega (arith, ap (λ (x : Board). x.total) c.in_ok-make_cell.ensures.board)

pub put-requires-clause-room : goal.put-requires-clause-room
put-requires-clause-room c =
    let can = can_in c.self.inside c.self.invariant c.args.self.now c.self.view_is c.args.part c.requires.may c.args.sv c.args.place c.args.cell c.args.grown c.requires.puts in
    let counts = counts_in c.self.inside c.self.invariant c.args.self.now c.self.view_is c.requires.room in
    let few = can.few in
    let trail = counts.trail_few in
    omega (arith, ap (λ (x : Course). points_of x.trail) c.in_ok-make_cell.ensures.course)

pub put-requires-clause-range : goal.put-requires-clause-range
put-requires-clause-range c =
    let i = c.self.inside in
    let can = can_in i c.self.invariant c.args.self.now c.self.view_is c.args.part c.requires.may c.args.sv c.args.place c.args.cell c.args.grown c.requires.puts in
    let t = tick_in i.base.mission (begun_in i) i.tick i.draft.board i.draft.course.steps.items i.draft.course.trail c.self.invariant in
    let made = made_in i c.self.invariant c.args.self.now c.self.view_is c.args.part c.requires.may c.args.sv c.args.place c.args.cell c.args.grown c.requires.puts _ _ (to_z w64 (of_z w64 i.tick)) (to_z w64 (of_z w64 i.since)) c.in_ok-make_cell.ensures.made c.mission-mission.ensures.mission (omega (arith, ints, t.0, t.1)) (omega (arith, ints)) in
    range_in i c.self.invariant c.args.self.now c.self.view_is c.args.part c.requires.may c.make_cell.new.self c.in_ok-make_cell.ensures.board c.in_ok-make_cell.ensures.course made c.args.grown can.brings

pub invariant_of-self-in-Ok : goal.invariant_of-self-in-Ok
invariant_of-self-in-Ok c =
    let i = c.self.inside in
    let t = tick_in i.base.mission (begun_in i) i.tick i.draft.board i.draft.course.steps.items i.draft.course.trail c.self.invariant in
    let made = made_in i c.self.invariant c.args.self.now c.self.view_is c.args.part c.requires.may c.args.sv c.args.place c.args.cell c.args.grown c.requires.puts _ _ (to_z w64 (of_z w64 i.tick)) (to_z w64 (of_z w64 i.since)) c.in_ok-make_cell.ensures.made c.mission-mission.ensures.mission (omega (arith, ints, t.0, t.1)) (omega (arith, ints)) in
    put_in i c.self.invariant c.args.self.now c.self.view_is c.args.part c.requires.may c.args.sv c.args.place c.args.cell c.args.grown c.requires.puts c.make_cell.new.self c.in_ok-make_cell.ensures.board c.in_ok-make_cell.ensures.course made _ c.put.new.self c.requires.room refl refl
    (c.count_needs.ensures ∙ ap (λ (m : Mission). length (needs_of m c.args.cell.held.kind)) c.mission-mission.ensures.mission)
    c.in-Ok.ensures.takes c.in-Ok.ensures.puts

pub overflow_add-result : goal.overflow_add-result
overflow_add-result c =
    let can = can_in c.self.inside c.self.invariant c.args.self.now c.self.view_is c.args.part c.requires.may c.args.sv c.args.place c.args.cell c.args.grown c.requires.puts in
    let small = can.small in
    omega arith

pub returns-in-Err-clause-shut : goal.returns-in-Err-clause-shut
returns-in-Err-clause-shut c =
    let i = c.self.inside in
    let t = tick_in i.base.mission (begun_in i) i.tick i.draft.board i.draft.course.steps.items i.draft.course.trail c.self.invariant in
    let made = made_in i c.self.invariant c.args.self.now c.self.view_is c.args.part c.requires.may c.args.sv c.args.place c.args.cell c.args.grown c.requires.puts _ _ (to_z w64 (of_z w64 i.tick)) (to_z w64 (of_z w64 i.since)) c.in_ok-make_cell.ensures.made c.mission-mission.ensures.mission (omega (arith, ints, t.0, t.1)) (omega (arith, ints)) in
    shut_in i c.self.invariant c.args.self.now c.self.view_is c.args.part c.requires.may c.make_cell.new.self c.in_ok-make_cell.ensures.board c.in_ok-make_cell.ensures.course made c.in-Err.shut c.in-Err.ensures.none
