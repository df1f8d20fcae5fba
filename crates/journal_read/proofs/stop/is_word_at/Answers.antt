use Rattle.std.proofs.Common.{List, Option, sym, ap, ◌∙◌}
use Rattle.std.specs.Prelude.{slice_get}
use Rattle.std.proofs.lemmas.List.{drop-map}
use Rattle.ddl_read.specs.Spelled.{spelling_of, spellings}
use Rattle.hs_texts.specs.Pieces.{Piece}
use Rattle.text_laws.specs.Parsers.{is_word, next}
use Rattle.journal_read.proofs.StopLemmas.{is_that, next_at, word_is}
use Rattle.journal_read.proofs.stop.is_word_at.Goals as goal

pub returns : goal.returns
returns c =
    let text = c.args.pieces.now.bytes in
    let ps = c.args.pieces.now.pieces in
    let i = c.args.i in
    let w = c.args.word.now in
    let here = c.reader.ensures ∙ sym (drop-map (spelling_of text) i ps) in
    let read = c.is_at.ensures ∙ ap (λ (l : List Piece). is_word w (next l)) here ∙ ap (λ (o : Option Piece). is_word w o) (next_at (spellings text ps) i) in
    (λ yes_. word_is w (slice_get (spellings text ps) i) (sym read ∙ yes_), λ there. read ∙ is_that w (slice_get (spellings text ps) i) there)
