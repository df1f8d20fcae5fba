use Rattle.std.proofs.Common.{ap, arith}
use Rattle.timeline_db.specs.Lines.{how_many, is_gap, is_waiting}
use Rattle.timeline_db.proofs.CountLemmas.{how_many-insert, how_many-most, one_at_most}
use Rattle.timeline_db.proofs.line.Line.put.Goals as goal

pub overflow_add-self : goal.overflow_add-self
overflow_add-self c = let t = c.self.inside in let held = t.tokens.ok.0 in omega (arith, how_many-most is_gap t.tokens.items, one_at_most (is_gap c.args.token), c.gap.ensures)

pub overflow_add-self-2 : goal.overflow_add-self-2
overflow_add-self-2 c = let t = c.self.inside in let held = t.tokens.ok.0 in omega (arith, how_many-most is_waiting t.tokens.items, one_at_most (is_waiting c.args.token), c.wait.ensures)

pub invariant_of-self-inside-2 : goal.invariant_of-self-inside-2
invariant_of-self-inside-2 c =
    let t = c.self.inside in
    let e = c.in_ok-insert.ensures.items in
    (omega (arith, ap (how_many is_gap) e, how_many-insert is_gap t.tokens.items c.args.place c.args.token, c.gap.ensures), (omega (arith, ap (how_many is_waiting) e, how_many-insert is_waiting t.tokens.items c.args.place c.args.token, c.wait.ensures), tt))
