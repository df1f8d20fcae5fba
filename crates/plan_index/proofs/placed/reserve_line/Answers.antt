use Rattle.std.proofs.Common.{◌<◌, vec_len, arith}
use Rattle.plan_index.proofs.LineLemmas.{slice_get-set_same, room_reserved}
use Rattle.plan_index.proofs.placed.reserve_line.Goals as goal

pub returns-in_err-reserve-clause-room : goal.returns-in_err-reserve-clause-room
returns-in_err-reserve-clause-room c = λ v n h.
    let below : c.args.sv.0 < vec_len c.grow_lines.new.lines = omega (arith, c.in_ok-grow_lines.ensures.there) in
    room_reserved c.grow_lines.new.lines.items c.args.sv.0 c.index_mut.result.now (record { tokens = c.reserve.new.self }) (omega (arith, below)) c.index_mut.ensures.value c.reserve.ensures.len c.reserve.ensures.capacity v n (c.grow_lines.ensures.room v n h)

pub returns-clause-room : goal.returns-clause-room
returns-clause-room c = λ v n h.
    let below : c.args.sv.0 < vec_len c.grow_lines.new.lines = omega (arith, c.in_ok-grow_lines.ensures.there) in
    room_reserved c.grow_lines.new.lines.items c.args.sv.0 c.index_mut.result.now (record { tokens = c.reserve.new.self }) (omega (arith, below)) c.index_mut.ensures.value c.reserve.ensures.len c.reserve.ensures.capacity v n (c.grow_lines.ensures.room v n h)

pub returns-clause-there : goal.returns-clause-there
returns-clause-there c = record {
  line = record { tokens = c.reserve.new.self };
  there = slice_get-set_same c.grow_lines.new.lines.items c.args.sv.0 (record { tokens = c.reserve.new.self }) (omega (arith, c.in_ok-grow_lines.ensures.there));
  room = c.in_ok-reserve.ensures.ok;
}
