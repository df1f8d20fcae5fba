use Rattle.std.proofs.Common.{◌≡◌, ℕ, ◌<◌, Some, length, set, get_or, slice_get, sym, ap, ◌∙◌, subst, inl, inr, length-set, arith}
use Rattle.std.proofs.lemmas.Bool.{cases_lt}
use Rattle.std.proofs.lemmas.Option.{get_or_from_slice_get, slice_get-get_or, slice_get_within}
use Rattle.search_laws.proofs.LawfulLemmas.{set_there}
use Rattle.timeline_db.proofs.LayingLemmas.{set_here}
use Rattle.timeline_db.specs.Laying.{NotesLast}
use Rattle.timeline_db.specs.Lines.{Shown}
use Rattle.timeline_db.proofs.laying.note_all.Goals as goal

pub note_last-requires-clause-few : goal.note_last-requires-clause-few
note_last-requires-clause-few c =
    let v = c.loop-sv.sv in
    let r = c.index-lines-sv.result in
    let s = get_or c.args.lines.now v r in
    let at : slice_get c.args.lines.now v ≡ Some s = slice_get-get_or c.args.lines.now v r (omega (arith, c.loop-sv-test.true, c.loop-sv.invariant.size)) in
    let here = c.loop-sv.invariant.rest v s (omega arith) at in
    let same : get_or c.loop-sv.lines v r ≡ s = get_or_from_slice_get c.loop-sv.lines v s r here in
    omega (arith, ap (λ (q : Shown). q.given) same, (c.requires.given v s at).1)

pub loop-sv-preserved : goal.loop-sv-preserved
loop-sv-preserved c =
    let v = c.loop-sv.sv in
    let lines = c.loop-sv.lines in
    let new = c.note_last.new.line in
    let r = c.index-lines-sv.result in
    let inside : v < length lines = omega (arith, c.loop-sv-test.true, c.loop-sv.invariant.size) in
    record {
      size = length-set lines v new ∙ c.loop-sv.invariant.size;
      noted = λ w s less is. elim (cases_lt w v) [
        | inl old ↦ let g = c.loop-sv.invariant.noted w s old is in (g.0, set_there lines v w new (λ e. absurd (omega arith)) ∙ g.1, g.2)
        | inr this ↦
            let at : w ≡ v = omega arith in
            let here : slice_get c.args.lines.now v ≡ Some s = ap (slice_get c.args.lines.now) (sym at) ∙ is in
            let same : get_or lines v r ≡ s = get_or_from_slice_get lines v s r (c.loop-sv.invariant.rest v s (omega arith) here) in
            let notes : NotesLast c.args.mission.now c.args.extensions.now v s new = subst (λ (q : Shown). NotesLast c.args.mission.now c.args.extensions.now v q new) same c.note_last.ensures in
            (new, ap (slice_get (set lines v new)) at ∙ set_here lines v new inside, subst (λ (n : ℕ). NotesLast c.args.mission.now c.args.extensions.now n s new) (sym at) notes)
      ];
      rest = λ w s more is. set_there lines v w new (λ e. absurd (omega arith)) ∙ c.loop-sv.invariant.rest w s (omega arith) is;
    }

pub returns : goal.returns
returns c = record {
  size = c.loop-sv.invariant.size;
  each = λ v s is. c.loop-sv.invariant.noted v s (omega (arith, slice_get_within c.args.lines.now v s is, c.loop-sv-test.false, c.loop-sv.invariant.size)) is;
}
