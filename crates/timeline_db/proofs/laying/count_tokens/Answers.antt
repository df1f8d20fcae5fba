use Rattle.std.proofs.Common.{length, ap, arith}
use Rattle.std.proofs.lemmas.List.Folds.{length-flat_map-take}
use Rattle.timeline_db.specs.Lines.{Shown}
use Rattle.timeline_db.proofs.laying.count_tokens.Goals as goal

pub overflow_add-total : goal.overflow_add-total
overflow_add-total c =
    let s = c.line-item.result in
    let here = ap (λ (q : Shown). length q.tokens) c.line-item.is in
    omega (arith, length-flat_map-take (λ (s : Shown). s.tokens) c.args.lines.now c.loop-line.line-index s c.loop-line-test.true, here, c.loop-line.invariant, c.requires, c.len-total.ensures)
