use Rattle.std.proofs.Common.{◌≡◌, ◌+◌, ◌++◌, ◌∷◌, [], length, take, sym, ap, ◌∙◌, arith}
use Rattle.std.proofs.lemmas.List.{take_more}
use Rattle.hs_base.specs.declared.plan.Time.{Time}
use Rattle.hs_base.specs.Bounds.{new_bounds}
use Rattle.hs_base.specs.Ranges.{whole, InRange}
use Rattle.plan_index.specs.Contents.{Contents, contents_of}
use Rattle.token_net.proofs.NumberLemmas.{room}
use Rattle.token_net.proofs.ExtensionLemmas.{bounds_more, fixed_each}
use Rattle.token_net.proofs.bounding.bounds_of_all.Goals as goal

pub add_next-requires-clause-small : goal.add_next-requires-clause-small
add_next-requires-clause-small c =
    omega (
      arith,
      ap (λ (x : Contents). length x.points) c.loop-extension.invariant.index,
      room c.args.extensions.now c.loop-extension.extension-index c.extension-item.result c.loop-extension-test.true c.extension-item.is,
      c.requires.small,
    )

pub add_next-requires-clause-times : goal.add_next-requires-clause-times
add_next-requires-clause-times c = λ j d below. (fixed_each (λ (t : Time). InRange whole t.at) c.args.extensions.now c.loop-extension.extension-index c.extension-item.result j d c.requires.within.times c.loop-extension-test.true c.extension-item.is below).0

pub loop-extension-preserved : goal.loop-extension-preserved
loop-extension-preserved c =
    let es = c.args.extensions.now in
    let i = c.loop-extension.extension-index in
    let e = c.extension-item.result in
    let more : take (i + 1) es ≡ take i es ++ e ∷ [] = take_more es i e c.loop-extension-test.true ∙ ap (λ x. take i es ++ x ∷ []) (sym c.extension-item.is) in
    let step = c.in_ok-add_next.ensures (take i es) c.loop-extension.invariant.index in
    record {
      index = step.0 ∙ ap contents_of (sym more);
      made = step.1 ∙ ap (λ l. l ++ new_bounds c.args.mission.now (take i es) e) c.loop-extension.invariant.made ∙ sym (bounds_more c.args.mission.now es i e c.loop-extension-test.true c.extension-item.is);
    }
