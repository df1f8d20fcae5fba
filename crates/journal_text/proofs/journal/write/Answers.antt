use Rattle.std.proofs.Common.{take, ap, arith, codes, refl}
use Rattle.std.proofs.lemmas.List.{length-take-le}
use Rattle.hs_machine.specs.State.{plan_of}
use Rattle.log_laws.specs.LogText.{deed_text, entry_text}
use Rattle.plan_text.proofs.WalkLemmas.{join_after-next, take-next}
use Rattle.journal_text.proofs.StandLemmas.{now_of-le, fewer-handed, fewer-horizons}
use Rattle.journal_text.proofs.journal.write.Goals as goal

pub take_in-requires-clause-time : goal.take_in-requires-clause-time
take_in-requires-clause-time c =
    let h = c.args.history.now in
    let i = c.loop-entry.entry-index in
    let front = length-take-le i h (omega arith) in
    omega (arith, now_of-le (take i h), front, c.loop-entry.invariant.0.tick_is)

pub take_in-requires-clause-fewer : goal.take_in-requires-clause-fewer
take_in-requires-clause-fewer c = λ x handed.
    let h = c.args.history.now in
    let i = c.loop-entry.entry-index in
    let next = take-next h h i c.entry-item.result refl c.loop-entry-test.true c.entry-item.is in
    fewer-handed h i c.entry-item.result c.loop-entry.progress.index x next c.loop-entry.invariant.0.index_is handed c.requires

pub newest-requires : goal.newest-requires
newest-requires c = fewer-horizons c.args.history.now c.loop-entry.entry-index c.loop-entry.progress.index c.loop-entry.invariant.0.index_is c.requires

pub loop-entry-preserved : goal.loop-entry-preserved
loop-entry-preserved c =
    let h = c.args.history.now in
    let i = c.loop-entry.entry-index in
    let e = c.entry-item.result in
    let m = c.args.mission.now in
    let stands = c.loop-entry.invariant.0 in
    let next = take-next h h i e refl c.loop-entry-test.true c.entry-item.is in
    let part = ap (λ now. deed_text m now (plan_of (take i h)) e.deed) stands.tick_is in
    let text =
    join_after-next (entry_text m) (take i h) e (codes "hsts log 1\n") c.loop-entry.text (deed_text m c.loop-entry.progress.tick (plan_of (take i h)) e.deed) c.push_deed.new.text c.loop-entry.invariant.1
    (c.in_ok-push_deed.ensures (plan_of (take i h)) stands.index_is) part in
    rw next (c.in_ok-take_in.ensures (take i h) stands, text)
