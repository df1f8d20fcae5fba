use Rattle.std.proofs.Common.{length, ap, arith}
use Rattle.std.proofs.lemmas.Result.{err_from_is_err_and}
use Rattle.hs_texts.specs.declared.written.WrittenExtension.{WrittenExtension}
use Rattle.hs_texts.specs.PlanSpelling.{unknown_in_body}
use Rattle.plan_index.specs.Contents.{Contents}
use Rattle.plan_text.proofs.NamingLemmas.{unknown_item}
use Rattle.plan_text.proofs.PlanLemmas.{plan_step}
use Rattle.plan_text.proofs.PointCountLemmas.{tokens_meant, points_meant, room_written}
use Rattle.plan_text.proofs.naming.plan_of.Goals as goal

pub extend-requires : goal.extend-requires
extend-requires c =
    let m = c.args.mission.now in
    let ws = c.args.written.now in
    let i = c.loop-one.one-index in
    let w = c.one-item.result in
    let es = c.loop-one.extensions in
    let looked = c.loop-one.invariant in
    let means = c.in_ok-extension.ensures es looked.index_is in
    let tokens = tokens_meant m es w c.in_ok-extension.extension means.1 in
    let points = points_meant m _ es looked.means in
    omega (arith, ap (λ (x : Contents). length x.points) looked.index_is, points, tokens, room_written ws i w c.loop-one-test.true c.one-item.is, c.requires)

pub returns-in_err-extension : goal.returns-in_err-extension
returns-in_err-extension c =
    let p = err_from_is_err_and c.from_residual-in_err-extension.result c.from_residual-in_err-extension.ensures.1 in
    let looked = c.loop-one.invariant in
    rw (p.1, p.2) (unknown_item (λ (w : WrittenExtension). unknown_in_body c.args.mission.now w.body) c.args.written.now c.loop-one.one-index c.one-item.result _ looked.known c.loop-one-test.true c.one-item.is (c.in_err-extension.ensures c.loop-one.extensions looked.index_is))

pub loop-one-preserved : goal.loop-one-preserved
loop-one-preserved c =
    let looked = c.loop-one.invariant in
    plan_step c.args.mission.now c.args.written.now c.loop-one.one-index c.loop-one.extensions c.loop-one.index c.extend.new.self c.one-item.result c.in_ok-extension.extension c.push.new.self looked c.loop-one-test.true c.one-item.is
    (c.in_ok-extension.ensures c.loop-one.extensions looked.index_is)
    (c.in_ok-extend.ensures.plan c.loop-one.extensions looked.index_is)
    c.in_ok-push.ensures.ok
