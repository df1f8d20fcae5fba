use Rattle.std.proofs.lemmas.Option.{slice_get_within}
use Rattle.plan_index.proofs.LineLemmas.{room_placed}
use Rattle.plan_index.proofs.placed.place.Goals as goal

pub returns-clause-room : goal.returns-clause-room
returns-clause-room c =
    let below = slice_get_within c.args.lines.now.items c.args.kind.sv.0 c.requires.room.line c.requires.room.there in
    room_placed c.args.lines.now.items c.args.kind.sv.0 c.index_mut-line.result.now (record { tokens = c.push_reserved.new.self }) below c.index_mut-line.ensures.value c.push_reserved.ensures.len c.push_reserved.ensures.capacity
