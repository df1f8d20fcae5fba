use Rattle.std.proofs.Common.{◌≡◌, ap, ◌∙◌, ◌++◌, ◌∷◌, [], take, length, arith}
use Rattle.std.specs.Prelude.{Some}
use Rattle.std.proofs.Math.Seq.{take-length}
use Rattle.plan_text.specs.SoFar.{times_named, names_of_kinds}
use Rattle.plan_text.proofs.CountLemmas.{names-more}
use Rattle.plan_text.proofs.written_plan.count_all.Goals as goal

pub loop-token-preserved : goal.loop-token-preserved
loop-token-preserved c = λ names h name v k.
    let ts = c.args.tokens.now in
    let i = c.loop-token.token-index in
    let d = c.token-item.result in
    c.in_ok-count_one.ensures (names ++ names_of_kinds (take i ts)) (c.loop-token.invariant names h) name v k
    ∙ ap (λ w. Some (times_named name ((names ++ names_of_kinds (take i ts)) ++ w.sv ∷ []))) c.token-item.is
    ∙ ap (λ ns. Some (times_named name ns)) (names-more names ts i d c.loop-token-test.true)

pub returns : goal.returns
returns c = λ names h name v k.
    let ts = c.args.tokens.now in
    let all : c.loop-token.token-index ≡ length ts = omega (arith, c.loop-token.auto.token-index-end, c.loop-token-test.false) in
    c.loop-token.invariant names h name v k ∙ ap (λ us. Some (times_named name (names ++ names_of_kinds us))) (ap (λ n. take n ts) all ∙ take-length ts)
