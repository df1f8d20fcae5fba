use Rattle.std.proofs.Common.{List, length, map, ap, ◌∙◌, arith}
use Rattle.search_tree.proofs.CellLemmas.{length-map'}
use Rattle.search_tree.specs.Partial.{at}
use Rattle.timeline_db.proofs.ExtendingLemmas.{place_line, place_most, place_nowhere, seen_at}
use Rattle.timeline_db.specs.Lines.{Shown, cell_of}
use Rattle.timeline_db.proofs.board.Board.name_of.Goals.{in-Some, in-None}
use Rattle.timeline_db.proofs.board.Board.name_of.Goals as goal

pub overflow_cast-result : goal.overflow_cast-result
overflow_cast-result c = elim c.match-get.branch [
  | in-Some w ↦
      let v = c.args.held.kind.sv.0 in
      let line = w.in-Some.line.now in
      let x = w.in-Some.ensures.lookup in
      let here = seen_at c.deref.result.now c.args.self.now.lines.items v line c.deref.ensures.value x.3.0 x.1 in
      let few = (c.requires v line here).1 in
      let is = w.place-is ∙ w.place_of-place.ensures in
      omega (arith, place_most c.args.held.stop 0 (map cell_of line.tokens), length-map' cell_of line.tokens)
  | in-None w ↦ let is = w.place-is in omega arith
]

pub returns : goal.returns
returns c = elim c.match-get.branch [
  | in-Some w ↦
      let v = c.args.held.kind.sv.0 in
      let line = w.in-Some.line.now in
      let x = w.in-Some.ensures.lookup in
      let here = seen_at c.deref.result.now c.args.self.now.lines.items v line c.deref.ensures.value x.3.0 x.1 in
      ap (at v) (w.place-is ∙ w.place_of-place.ensures ∙ place_line c.args.self.now v c.args.held.stop line here (c.requires v line here).0)
  | in-None w ↦
      let past = w.in-None.ensures.lookup.3 in
      ap (at c.args.held.kind.sv.0) (w.place-is ∙ place_nowhere c.args.self.now c.args.held.kind.sv.0 c.args.held.stop (omega (arith, ap (λ (l : List Shown). length l) c.deref.ensures.value)))
]
