use Rattle.std.proofs.Common.{◌<◌, length, ap, subst, sym, arith}
use Rattle.timeline_db.specs.Lines.{Shown, how_many, is_gap, is_waiting}
use Rattle.timeline_db.proofs.CountLemmas.{how_many-remove, how_many-has}
use Rattle.timeline_db.proofs.line.Line.take_out.Goals as goal

pub overflow_sub-self : goal.overflow_sub-self
overflow_sub-self c =
    let t = c.self.inside in
    let below : c.args.place < length c.self.inside.tokens.items = subst (λ (s : Shown). c.args.place < length s.tokens) (sym c.self.view_is) c.requires in
    omega (arith, how_many-has is_gap t.tokens.items c.args.place c.remove-token.result below c.remove-token.ensures.value, c.gap.ensures)

pub overflow_sub-self-2 : goal.overflow_sub-self-2
overflow_sub-self-2 c =
    let t = c.self.inside in
    let below : c.args.place < length c.self.inside.tokens.items = subst (λ (s : Shown). c.args.place < length s.tokens) (sym c.self.view_is) c.requires in
    omega (arith, how_many-has is_waiting t.tokens.items c.args.place c.remove-token.result below c.remove-token.ensures.value, c.wait.ensures)

pub invariant_of-self-inside : goal.invariant_of-self-inside
invariant_of-self-inside c =
    let t = c.self.inside in
    let below : c.args.place < length c.self.inside.tokens.items = subst (λ (s : Shown). c.args.place < length s.tokens) (sym c.self.view_is) c.requires in
    let e = c.remove-token.ensures.items in (
      omega (arith, ap (how_many is_gap) e, how_many-remove is_gap t.tokens.items c.args.place c.remove-token.result below c.remove-token.ensures.value, c.gap.ensures),
      (omega (arith, ap (how_many is_waiting) e, how_many-remove is_waiting t.tokens.items c.args.place c.remove-token.result below c.remove-token.ensures.value, c.wait.ensures), tt),
    )
