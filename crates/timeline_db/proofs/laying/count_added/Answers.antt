use Rattle.std.proofs.Common.{drop, length, ap, arith}
use Rattle.std.proofs.lemmas.List.{length-drop}
use Rattle.std.proofs.lemmas.List.Folds.{length-flat_map-take}
use Rattle.timeline_db.specs.Lines.{Shown}
use Rattle.timeline_db.proofs.laying.count_added.Goals as goal

pub overflow_add-added : goal.overflow_add-added
overflow_add-added c =
    let s = c.line-item.result in
    let here = ap (λ (q : Shown). length (drop q.given q.tokens)) c.line-item.is in
    omega (arith, length-flat_map-take (λ (s : Shown). drop s.given s.tokens) c.args.lines.now c.loop-line.line-index s c.loop-line-test.true, here, length-drop s.given s.tokens, c.loop-line.invariant, c.requires.few, c.len.ensures, c.given.ensures)
