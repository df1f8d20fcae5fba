use Rattle.std.proofs.Common.{◌+◌, ◌++◌, List, drop, length, map, slice_get, ap, sym, ◌∙◌, arith}
use Rattle.std.proofs.lemmas.Option.{slice_get-get_or, slice_get-map}
use Rattle.std.specs.Prelude.{option_map}
use Rattle.search_tree.specs.Extends.{supports_at}
use Rattle.search_tree.specs.Flaws.{flat_map_from}
use Rattle.timeline_db.proofs.ExtendingLemmas.{flat_step}
use Rattle.timeline_db.specs.Boards.{pictured}
use Rattle.timeline_db.specs.Lines.{cell_of}
use Rattle.timeline_db.specs.declared.token.Token.{Token}
use Rattle.timeline_db.proofs.board.Board.push_supports_in.Goals as goal

pub loop-place-preserved : goal.loop-place-preserved
loop-place-preserved c =
    let i = c.loop-place.place in
    let ts = c.args.line.now.tokens in
    let f = supports_at c.args.mission.now (pictured c.args.self.now) c.args.sv in
    let below = c.loop-place-test.true in
    let end = c.len-place-end.ensures in
    let token = ap (λ (l : List Token). slice_get l i) (sym c.tokens.ensures) ∙ slice_get-get_or c.tokens.result.now i _ (omega (arith, ap length c.tokens.ensures)) in
    let cell = slice_get-map cell_of ts i ∙ ap (option_map cell_of) token in
    ap (λ l. l ++ flat_map_from f (i + 1) (drop (i + 1) (map cell_of ts))) c.in_ok-push_supports_of.ensures ∙ flat_step f c.loop-place.supports _ i (map cell_of ts) _ cell c.loop-place.invariant
