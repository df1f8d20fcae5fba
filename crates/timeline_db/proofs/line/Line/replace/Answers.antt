use Rattle.std.proofs.Common.{◌<◌, length, subst, sym, arith}
use Rattle.timeline_db.specs.Lines.{Shown, is_gap, is_waiting}
use Rattle.timeline_db.proofs.CountLemmas.{how_many-set, how_many-most, how_many-has, one_at_most}
use Rattle.timeline_db.proofs.line.Line.replace.Goals as goal

pub overflow_sub-self : goal.overflow_sub-self
overflow_sub-self c =
    let t = c.self.inside in
    let below : c.args.place < length c.self.inside.tokens.items = subst (λ (s : Shown). c.args.place < length s.tokens) (sym c.self.view_is) c.requires in
    omega (arith, how_many-has is_gap t.tokens.items c.args.place c.index-had.result.now below c.index-had.ensures, c.gap.ensures)

pub overflow_add-self : goal.overflow_add-self
overflow_add-self c = let t = c.self.inside in let held = t.tokens.ok.0 in omega (arith, how_many-most is_gap t.tokens.items, one_at_most (is_gap c.args.token), c.gap-2.ensures)

pub overflow_sub-self-2 : goal.overflow_sub-self-2
overflow_sub-self-2 c =
    let t = c.self.inside in
    let below : c.args.place < length c.self.inside.tokens.items = subst (λ (s : Shown). c.args.place < length s.tokens) (sym c.self.view_is) c.requires in
    omega (arith, how_many-has is_waiting t.tokens.items c.args.place c.index-had.result.now below c.index-had.ensures, c.wait.ensures)

pub overflow_add-self-2 : goal.overflow_add-self-2
overflow_add-self-2 c = let t = c.self.inside in let held = t.tokens.ok.0 in omega (arith, how_many-most is_waiting t.tokens.items, one_at_most (is_waiting c.args.token), c.wait-2.ensures)

pub invariant_of-self-inside : goal.invariant_of-self-inside
invariant_of-self-inside c =
    let t = c.self.inside in
    let below : c.args.place < length c.self.inside.tokens.items = subst (λ (s : Shown). c.args.place < length s.tokens) (sym c.self.view_is) c.requires in (
      omega (arith, how_many-has is_gap t.tokens.items c.args.place c.index-had.result.now below c.index-had.ensures, how_many-set is_gap t.tokens.items c.args.place c.index-had.result.now c.args.token below c.index-had.ensures, c.gap.ensures, c.gap-2.ensures),
      (omega (arith, how_many-has is_waiting t.tokens.items c.args.place c.index-had.result.now below c.index-had.ensures, how_many-set is_waiting t.tokens.items c.args.place c.index-had.result.now c.args.token below c.index-had.ensures, c.wait.ensures, c.wait-2.ensures), tt),
    )
