use Rattle.std.proofs.Common.{◌≡◌, Some, slice_get, ap, sym, ◌∙◌, inl, inr, arith}
use Rattle.std.proofs.lemmas.Bool.{cases_lt}
use Rattle.std.proofs.lemmas.Option.{slice_get-get_or, slice_get_within}
use Rattle.search_tree.specs.Flaws.{slots}
use Rattle.timeline_db.proofs.FlawLemmas.{slot_first, slot_none}
use Rattle.timeline_db.specs.Lines.{Shown, row_of}
use Rattle.timeline_db.proofs.flaws.first_slot_of.Goals as goal

pub returns-in-Some : goal.returns-in-Some
returns-in-Some c =
    let here : slice_get c.args.lines.now c.loop-sv.sv ≡ Some c.index-lines-sv.result = slice_get-get_or c.args.lines.now c.loop-sv.sv _ c.loop-sv-test.true ∙ ap Some (sym c.index-lines-sv.is) in
    slot_first c.args.lines.now c.loop-sv.sv c.in-Some.place c.index-lines-sv.result here c.in-Some.ensures (λ w q l is. c.loop-sv.invariant w q l is)

pub loop-sv-preserved : goal.loop-sv-preserved
loop-sv-preserved c = λ v s l is. elim (cases_lt v c.loop-sv.sv) [
  | inl old ↦ c.loop-sv.invariant v s old is
  | inr new ↦
      let here : slice_get c.args.lines.now c.loop-sv.sv ≡ Some c.index-lines-sv.result = slice_get-get_or c.args.lines.now c.loop-sv.sv _ c.loop-sv-test.true ∙ ap Some (sym c.index-lines-sv.is) in
      let at : v ≡ c.loop-sv.sv = omega arith in
      let found : Some s ≡ Some c.index-lines-sv.result = sym is ∙ ap (slice_get c.args.lines.now) at ∙ here in
      let same : s ≡ c.index-lines-sv.result = cc in
      ap (λ (q : Shown). slots (row_of q)) same ∙ c.in_default.ensures
]

pub returns : goal.returns
returns c = slot_none c.args.lines.now (λ w q is. c.loop-sv.invariant w q (let past = c.loop-sv-test.false in omega (arith, slice_get_within c.args.lines.now w q is)) is)
