use Rattle.std.proofs.Common.{ℕ, ◌-◌, Bool, [], ◌∷◌, length, sym, ap, ◌∙◌}
use Rattle.std.specs.Prelude.{cond}
use Rattle.timeline_db.proofs.FlawLemmas.{slot_at, slot_end}
use Rattle.timeline_db.proofs.flaws.first_slot.Goals as goal

pub returns-in-Some : goal.returns-in-Some
returns-in-Some c = (slot_at c.args.line.now c.requires.line c.in-Some.place c.requires.first c.in-Some.ensures).1

pub returns-in-None : goal.returns-in-None
returns-in-None c = slot_end c.args.line.now c.requires.line c.requires.some.0 c.in-None.ensures ∙ ap (λ (b : Bool). cond b [] ((length c.args.line.now.tokens - 1) ∷ [])) (sym c.is_finished.ensures ∙ c.if-is_finished.true)

pub returns-in-None-2 : goal.returns-in-None-2
returns-in-None-2 c = record {
  rest = [];
  is =
      slot_end c.args.line.now c.requires.line c.requires.some.0 c.in-None-2.ensures
      ∙ ap (λ (b : Bool). cond b [] ((length c.args.line.now.tokens - 1) ∷ [])) (sym c.is_finished.ensures ∙ c.if-is_finished.false)
      ∙ ap (λ (n : ℕ). (n - 1) ∷ []) (sym c.len.ensures);
}
