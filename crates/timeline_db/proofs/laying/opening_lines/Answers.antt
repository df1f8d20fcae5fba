use Rattle.std.proofs.Common.{◌≡◌, ℕ, List, [], Some, length, slice_get, sym, ap, ◌∙◌, subst, arith}
use Rattle.std.proofs.lemmas.List.{nil_from_length}
use Rattle.std.proofs.lemmas.Result.{IfOk-weaker}
use Rattle.hs_base.specs.Checked.{Checked}
use Rattle.hs_base.specs.Points.{points_of, tokens_of}
use Rattle.hs_base.specs.declared.mission.Mission.{Mission}
use Rattle.hs_base.specs.declared.plan.Extension.{Extension}
use Rattle.hs_base.specs.declared.plan.Plan.{Plan}
use Rattle.plan_check.proofs.WithinLemmas.{few_tokens}
use Rattle.plan_index.specs.Contents.{Contents}
use Rattle.timeline_db.proofs.TotalLemmas.{timeline_few}
use Rattle.timeline_db.proofs.LayingLemmas.{laid_given, write_back}
use Rattle.timeline_db.proofs.OutsetLemmas.{outset_first, outset_later}
use Rattle.timeline_db.specs.Laying.{AreFirst, AreLaid, AreOutset, NotesAll}
use Rattle.timeline_db.specs.Lines.{Shown}
use Rattle.timeline_db.proofs.laying.opening_lines.Goals as goal

pub returns-then-horizons-eq0 : goal.returns-then-horizons-eq0
returns-then-horizons-eq0 c = λ b e.
    let m = c.args.plan.now.mission in
    let es = c.args.plan.now.plan.extensions in
    let many : c.horizons.result ≡ length es = c.horizons.ensures ∙ ap (λ (x : Contents). x.horizons) c.index-index.ensures in
    let none : es ≡ [] = nil_from_length es (omega (arith, many, c.if-horizons-eq0.true)) in
    IfOk-weaker c.first_lines.result (λ lines. AreFirst c.mission-mission.result.now 2 lines.items) (λ lines. AreOutset m b lines.items)
    (λ lines h. outset_first m b lines.items (e ∙ none) (subst (λ (x : Mission). AreFirst x 2 lines.items) c.mission-mission.ensures.mission h)) c.first_lines.ensures

pub note_all-requires-clause-given : goal.note_all-requires-clause-given
note_all-requires-clause-given c = λ v s is.
    let m = c.args.plan.now.mission in
    let es = c.args.plan.now.plan.extensions in
    let checked = c.mission-mission.ensures.checked in
    let items = c.in_ok-lines.lines.items in
    let at : slice_get items v ≡ Some s = ap (λ (l : List Shown). slice_get l v) (sym c.deref_mut.ensures.value) ∙ is in
    let laid : AreLaid c.len.result (tokens_of es) (points_of es) items = subst (λ (x : Contents). AreLaid c.len.result x.tokens x.points items) c.index-index.ensures c.in_ok-lines.ensures in
    let given = laid_given c.len.result (tokens_of es) (points_of es) items v s laid at in
    (omega (arith, given), omega (arith, ap (λ (q : Shown). q.given) (laid.each v s at), timeline_few (tokens_of es) v, few_tokens m checked.mission es checked.rules))

pub returns : goal.returns
returns c = λ b e.
    let m = c.args.plan.now.mission in
    let es = c.args.plan.now.plan.extensions in
    let items = c.in_ok-lines.lines.items in
    let new = c.note_all.new.lines in
    let many : c.horizons.result ≡ length es = c.horizons.ensures ∙ ap (λ (x : Contents). x.horizons) c.index-index.ensures in
    let width : c.len.result ≡ length m.vars = c.len.ensures ∙ ap (λ (x : Mission). length x.vars) c.mission-mission.ensures.mission in
    let laid : AreLaid (length m.vars) (tokens_of es) (points_of es) items =
    subst (λ (n : ℕ). AreLaid n (tokens_of es) (points_of es) items) width (subst (λ (x : Contents). AreLaid c.len.result x.tokens x.points items) c.index-index.ensures c.in_ok-lines.ensures) in
    let plan : c.as_slice.result.now ≡ es = c.as_slice.ensures ∙ ap (λ (p : Plan). p.extensions) c.plan.ensures.plan in
    let notes : NotesAll m es items new =
    subst (λ (l : List Shown). NotesAll m es l new) c.deref_mut.ensures.value
    (subst (λ (l : List Extension). NotesAll m l c.deref_mut.result.now new) plan (subst (λ (x : Mission). NotesAll x c.as_slice.result.now c.deref_mut.result.now new) c.mission-mission.ensures.mission c.note_all.ensures)) in
    let some : es ≡ [] → ⊥ = λ none. let size = ap (λ (l : List Extension). length l) none in let not = c.if-horizons-eq0.false in omega (arith, many, size) in
    let size : c.in_ok-lines.lines.len ≡ length items = omega (arith, c.deref_mut.ensures.len, ap (λ (l : List Shown). length l) c.deref_mut.ensures.value) in
    let out : AreOutset m b new =
    outset_later m b items new (subst (Checked m) (sym e) c.mission-mission.ensures.checked) (λ none. some (sym e ∙ none))
    (subst (λ (l : List Extension). AreLaid (length m.vars) (tokens_of l) (points_of l) items) (sym e) laid) (subst (λ (l : List Extension). NotesAll m l items new) (sym e) notes) in
    subst (AreOutset m b) (sym (write_back items new c.in_ok-lines.lines.len (sym size) (omega (arith, notes.size, size)))) out
