use Rattle.std.proofs.Common.{ap, ◌∙◌, arith}
use Rattle.text_laws.specs.MissionReading.{mission_at}
use Rattle.ddl_read.proofs.ReadLemmas.{are_spelled, left_of_read, left_of_stuck, spells_front, expected_in, begins_with}
use Rattle.ddl_read.proofs.reading.read_pieces.Goals as goal

pub new-reader-requires : goal.new-reader-requires
new-reader-requires c = rw (c.text.ensures, c.as_slice.ensures.pieces) (are_spelled _ _ c.as_slice.ensures.cut)

pub used-requires : goal.used-requires
used-requires c =
    let pieces = c.args.pieces.now in
    let e = begins_with pieces.bytes _ pieces.pieces _ _ c.new-reader.ensures c.text.ensures c.as_slice.ensures.pieces in
    let few = left_of_read pieces.bytes pieces.pieces _ _ (ap mission_at e ∙ c.in-Ok.ensures) in
    omega (arith, few, c.left.ensures)

pub used-requires-in-Err-Text : goal.used-requires-in-Err-Text
used-requires-in-Err-Text c =
    let pieces = c.args.pieces.now in
    let e = begins_with pieces.bytes _ pieces.pieces _ _ c.new-reader.ensures c.text.ensures c.as_slice.ensures.pieces in
    let few = left_of_stuck pieces.bytes pieces.pieces _ (ap mission_at e ∙ (rw c.in-Err-Text.field-0-is at c.in-Err-Text.ensures)) in
    omega (arith, few, c.left-in-Err-Text.ensures)

pub returns-in-Ok : goal.returns-in-Ok
returns-in-Ok c =
    let pieces = c.args.pieces.now in
    let e = begins_with pieces.bytes _ pieces.pieces _ _ c.new-reader.ensures c.text.ensures c.as_slice.ensures.pieces in
    spells_front pieces.bytes pieces.pieces _ _ c.used.result c.as_slice.ensures.cut (ap mission_at e ∙ c.in-Ok.ensures) (omega (arith, c.used.ensures, c.left.ensures))

pub returns-in-Err-Text : goal.returns-in-Err-Text
returns-in-Err-Text c =
    let pieces = c.args.pieces.now in
    let e = begins_with pieces.bytes _ pieces.pieces _ _ c.new-reader.ensures c.text.ensures c.as_slice.ensures.pieces in
    expected_in pieces.bytes pieces.pieces _ c.used-in-Err-Text.result _ c.as_slice.ensures.cut (ap mission_at e ∙ (rw c.in-Err-Text.field-0-is at c.in-Err-Text.ensures)) (omega (arith, c.used-in-Err-Text.ensures, c.left-in-Err-Text.ensures)) c.place.ensures
