use Rattle.std.proofs.Common.{◌≡◌, List, [], ap, sym, subst, ◌∙◌}
use Rattle.std.proofs.lemmas.Result.{err_from_is_err_and}
use Rattle.log_laws.specs.declared.written.WrittenEntry.{WrittenEntry}
use Rattle.plan_index.specs.Contents.{contents_of}
use Rattle.plan_text.proofs.NamingLemmas.{unknown_item}
use Rattle.journal_read.specs.declared.noted.Noted.{Noted}
use Rattle.journal_read.specs.LogSpelling.{EntryMeans, plan_in, unknown_in_deed}
use Rattle.journal_read.proofs.EntryLemmas.{entry_step}
use Rattle.journal_read.proofs.naming.entries_of.Goals as goal

pub returns-in_err-entry : goal.returns-in_err-entry
returns-in_err-entry c =
    let p = err_from_is_err_and c.from_residual-in_err-entry.result c.from_residual-in_err-entry.ensures.1 in
    let looked = c.loop-one.invariant in
    let before = looked.index_is ∙ ap (λ (ns : List Noted). contents_of (plan_in ns)) (sym c.as_slice.ensures) in
    rw (p.1, p.2) (unknown_item (λ (w : WrittenEntry). unknown_in_deed c.args.mission.now w.deed) c.args.written.now c.loop-one.one-index c.one-item.result _ looked.known c.loop-one-test.true c.one-item.is (c.in_err-entry.ensures before))

pub loop-one-preserved : goal.loop-one-preserved
loop-one-preserved c =
    let m = c.args.mission.now in
    let w = c.one-item.result in
    let n = c.in_ok-entry.entry in
    let looked = c.loop-one.invariant in
    let before = looked.index_is ∙ ap (λ (ns : List Noted). contents_of (plan_in ns)) (sym c.as_slice.ensures) in
    entry_step m c.args.written.now c.loop-one.one-index c.loop-one.noted c.loop-one.index c.follow.new.index w n c.push.new.self looked c.loop-one-test.true c.one-item.is
    (subst (λ (ns : List Noted). (unknown_in_deed m w.deed ≡ []) × EntryMeans m (plan_in ns) w n) c.as_slice.ensures (c.in_ok-entry.ensures before))
    (c.in_ok-follow.ensures _ looked.index_is)
    c.in_ok-push.ensures.ok
