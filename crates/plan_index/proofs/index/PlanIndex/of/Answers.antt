use Rattle.std.proofs.Common.{◌≡◌, ◌+◌, ◌++◌, ◌∷◌, [], length, take, sym, ap, ◌∙◌, arith}
use Rattle.std.proofs.lemmas.List.{take_more}
use Rattle.plan_index.specs.Contents.{Contents, contents_of}
use Rattle.plan_index.proofs.CountLemmas.{room}
use Rattle.plan_index.proofs.index.PlanIndex.of.Goals as goal

pub extend-requires : goal.extend-requires
extend-requires c =
    omega (
      arith,
      ap (λ (x : Contents). length x.points) c.loop-extension.invariant,
      room c.args.extensions.now c.loop-extension.extension-index c.extension-item.result c.loop-extension-test.true c.extension-item.is,
      c.requires,
    )

pub loop-extension-preserved : goal.loop-extension-preserved
loop-extension-preserved c =
    let es = c.args.extensions.now in
    let i = c.loop-extension.extension-index in
    let e = c.extension-item.result in
    let more : take (i + 1) es ≡ take i es ++ e ∷ [] = take_more es i e c.loop-extension-test.true ∙ ap (λ x. take i es ++ x ∷ []) (sym c.extension-item.is) in
    c.in_ok-extend.ensures.plan (take i es) c.loop-extension.invariant ∙ ap contents_of (sym more)
