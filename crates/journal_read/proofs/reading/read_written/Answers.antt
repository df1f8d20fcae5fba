use Rattle.std.proofs.Common.{◌≡◌, ◌+◌, ◌-◌, length, map, ap, sym, ◌∙◌, arith}
use Rattle.hs_texts.specs.Pieces.{place_in}
use Rattle.ddl_read.specs.Spelled.{placed}
use Rattle.ddl_read.proofs.CutLemmas.{few_pieces}
use Rattle.journal_read.specs.LogReading.{log_at}
use Rattle.log_laws.specs.LogGrammar.{LogGrammar}
use Rattle.journal_read.proofs.LogReadLemmas.{log_reads}
use Rattle.journal_read.proofs.LogSizeLemmas.{sized_log}
use Rattle.plan_text.proofs.ReadingLemmas.{left_of_read, left_of_stuck, left_of_broken, is_kept_text, is_trailing, is_expected, is_broken}
use Rattle.journal_read.proofs.reading.read_written.Goals as goal

pub place_before-requires : goal.place_before-requires
place_before-requires c =
    let p = c.args.pieces.now in
    let begun = c.new-reader.ensures ∙ c.reader.ensures in
    let cut = c.as_slice-count.ensures.cut in
    let same = ap length c.as_slice-count.ensures.pieces in
    let few = few_pieces p.bytes p.pieces cut in
    let there = left_of_read (LogGrammar c.args.mission.now) (log_at c.args.mission.now) (log_reads c.args.mission.now) p.bytes c.args.from p.pieces _ _ (ap (log_at c.args.mission.now) (sym begun) ∙ c.in-Ok.ensures) in
    (omega (arith, same, there, c.left-then-left-gt0.ensures), omega (arith, same, few))

pub returns-then-left-gt0 : goal.returns-then-left-gt0
returns-then-left-gt0 c =
    let p = c.args.pieces.now in
    let begun = c.new-reader.ensures ∙ c.reader.ensures in
    let k : length c.as_slice-count.result.now - c.left-then-left-gt0.result ≡ length p.pieces - length c.log.new.reader = omega (arith, ap length c.as_slice-count.ensures.pieces, c.left-then-left-gt0.ensures) in
    is_trailing (LogGrammar c.args.mission.now) (log_at c.args.mission.now) (log_reads c.args.mission.now) p.bytes c.args.from c.place_before.result p.pieces _ _ c.as_slice-count.ensures.cut (ap (log_at c.args.mission.now) (sym begun) ∙ c.in-Ok.ensures) (omega (arith, c.if-left-gt0.true, c.left.ensures)) (c.place_before.ensures ∙ ap (place_in (length p.bytes) (map (placed p.bytes) p.pieces)) k)

pub place_before-requires-in-Err-Text : goal.place_before-requires-in-Err-Text
place_before-requires-in-Err-Text c =
    let p = c.args.pieces.now in
    let begun = c.new-reader.ensures ∙ c.reader.ensures in
    let cut = c.as_slice-count.ensures.cut in
    let same = ap length c.as_slice-count.ensures.pieces in
    let few = few_pieces p.bytes p.pieces cut in
    let there = left_of_stuck (LogGrammar c.args.mission.now) (log_at c.args.mission.now) (log_reads c.args.mission.now) p.bytes c.args.from p.pieces _ (ap (log_at c.args.mission.now) (sym begun) ∙ (rw c.in-Err-Text.field-0-is at c.in-Err-Text.ensures)) in
    (omega (arith, same, there, c.left-in-Err-Text.ensures), omega (arith, same, few))

pub overflow_add-left : goal.overflow_add-left
overflow_add-left c =
    let p = c.args.pieces.now in
    let begun = c.new-reader.ensures ∙ c.reader.ensures in
    let few = few_pieces p.bytes p.pieces c.as_slice-count.ensures.cut in
    let there = left_of_broken (LogGrammar c.args.mission.now) (log_at c.args.mission.now) (log_reads c.args.mission.now) (sized_log c.args.mission.now) p.bytes c.args.from p.pieces _ c.in-Err-Pieces.size (ap (log_at c.args.mission.now) (sym begun) ∙ (rw c.in-Err-Pieces.field-0-is at c.in-Err-Pieces.ensures)) in
    record { fits = omega (arith, few, there, c.left-in-Err-Pieces.ensures) }

pub place_before-requires-in-Err-Pieces : goal.place_before-requires-in-Err-Pieces
place_before-requires-in-Err-Pieces c =
    let p = c.args.pieces.now in
    let begun = c.new-reader.ensures ∙ c.reader.ensures in
    let cut = c.as_slice-count.ensures.cut in
    let same = ap length c.as_slice-count.ensures.pieces in
    let few = few_pieces p.bytes p.pieces cut in
    let there = left_of_broken (LogGrammar c.args.mission.now) (log_at c.args.mission.now) (log_reads c.args.mission.now) (sized_log c.args.mission.now) p.bytes c.args.from p.pieces _ c.in-Err-Pieces.size (ap (log_at c.args.mission.now) (sym begun) ∙ (rw c.in-Err-Pieces.field-0-is at c.in-Err-Pieces.ensures)) in
    (omega (arith, same, there, c.left-in-Err-Pieces.ensures), omega (arith, same, few))

pub returns-else-left-gt0 : goal.returns-else-left-gt0
returns-else-left-gt0 c =
    let p = c.args.pieces.now in
    let begun = c.new-reader.ensures ∙ c.reader.ensures in
    is_kept_text (LogGrammar c.args.mission.now) (log_at c.args.mission.now) (log_reads c.args.mission.now) p.bytes c.args.from p.pieces _ c.in-Ok.written c.as_slice-count.ensures.cut (ap (log_at c.args.mission.now) (sym begun) ∙ c.in-Ok.ensures) (omega (arith, c.if-left-gt0.false, c.left.ensures))

pub returns-in-Err-Text : goal.returns-in-Err-Text
returns-in-Err-Text c =
    let p = c.args.pieces.now in
    let begun = c.new-reader.ensures ∙ c.reader.ensures in
    let k : length c.as_slice-count.result.now - c.left-in-Err-Text.result ≡ length p.pieces - length c.log.new.reader = omega (arith, ap length c.as_slice-count.ensures.pieces, c.left-in-Err-Text.ensures) in
    is_expected (LogGrammar c.args.mission.now) (log_at c.args.mission.now) (log_reads c.args.mission.now) p.bytes c.args.from c.place_before-in-Err-Text.result p.pieces _ c.as_slice-count.ensures.cut (ap (log_at c.args.mission.now) (sym begun) ∙ (rw c.in-Err-Text.field-0-is at c.in-Err-Text.ensures)) (c.place_before-in-Err-Text.ensures ∙ ap (place_in (length p.bytes) (map (placed p.bytes) p.pieces)) k)

pub returns-in-Err-Pieces : goal.returns-in-Err-Pieces
returns-in-Err-Pieces c =
    let p = c.args.pieces.now in
    let begun = c.new-reader.ensures ∙ c.reader.ensures in
    let k : length c.as_slice-count.result.now - (c.left-in-Err-Pieces.result + c.in-Err-Pieces.size) ≡ length p.pieces - (length c.log.new.reader + c.in-Err-Pieces.size) = omega (arith, ap length c.as_slice-count.ensures.pieces, c.left-in-Err-Pieces.ensures) in
    is_broken (LogGrammar c.args.mission.now) (log_at c.args.mission.now) (log_reads c.args.mission.now) (sized_log c.args.mission.now) p.bytes c.args.from c.place_before-in-Err-Pieces.result c.in-Err-Pieces.size p.pieces _ c.as_slice-count.ensures.cut (ap (log_at c.args.mission.now) (sym begun) ∙ (rw c.in-Err-Pieces.field-0-is at c.in-Err-Pieces.ensures)) (c.place_before-in-Err-Pieces.ensures ∙ ap (place_in (length p.bytes) (map (placed p.bytes) p.pieces)) k)
