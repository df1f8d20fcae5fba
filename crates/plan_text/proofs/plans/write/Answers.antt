use Rattle.std.proofs.Common.{◌≡◌, ◌+◌, ◌≤◌, ◌++◌, ◌∷◌, [], ℕ, List, length, take, ap, sym, subst, codes, arith}
use Rattle.std.proofs.lemmas.Grind.{common_steps}
use Rattle.hs_base.specs.declared.limits.TheConstants.{TEXT_BYTES}
use Rattle.hs_base.specs.declared.plan.Extension.{Extension}
use Rattle.hs_base.specs.Points.{count}
use Rattle.hs_texts.specs.PlanText.{extension_in, extension_text, plan_text}
use Rattle.plan_text.proofs.WalkLemmas.{join_after-next, take-next}
use Rattle.hs_texts.specs.PlanSpelling.{PlanSpells}
use Rattle.plan_index.specs.Contents.{Contents, contents_of}
use Rattle.plan_index.proofs.CountLemmas.{room}
use Rattle.text_laws.proofs.PlanSpellingLemmas.{plan_spelled}
use Rattle.plan_text.proofs.plans.write.Goals as goal

pub extend-requires : goal.extend-requires
extend-requires c =
    let i = c.loop-extension.extension-index in
    let e = c.extension-item.result in
    let fits = subst (λ (es : List Extension). count (take i es) + 1 + length e.tokens ≤ count es) c.as_slice-extension-items.ensures (room c.as_slice-extension-items.result.now i e c.loop-extension-test.true c.extension-item.is) in
    omega (arith, ap (λ (x : Contents). length x.points) c.loop-extension.invariant.0, fits, c.requires)

pub loop-extension-preserved : goal.loop-extension-preserved
loop-extension-preserved c =
    let es = c.args.plan.now.extensions in
    let i = c.loop-extension.extension-index in
    let e = c.extension-item.result in
    let m = c.args.mission.now in
    let next = take-next es c.as_slice-extension-items.result.now i e c.as_slice-extension-items.ensures c.loop-extension-test.true c.extension-item.is in
    let grown : c.extend.new.self ≡ contents_of (take i es ++ e ∷ []) = c.in_ok-extend.ensures.plan (take i es) c.loop-extension.invariant.0 in
    let text =
    join_after-next (extension_text m) (take i es) e (codes "hsts plan 1\n") c.loop-extension.text (extension_in m c.loop-extension.index.points e) c.push_extension.new.text c.loop-extension.invariant.1 c.in_ok-push_extension.ensures
    (ap (λ (x : Contents). extension_in m x.points e) c.loop-extension.invariant.0) in
    rw next (grown, text)

pub returns-clause-spelled : goal.returns-clause-spelled
returns-clause-spelled c = λ writable short.
    let m = c.args.mission.now in
    let es = c.args.plan.now.extensions in
    let same : c.push_bytes-2.new.self ≡ plan_text m es = grind (arith, common_steps) in
    subst (λ (t : List ℕ). length t ≤ TEXT_BYTES → PlanSpells m t 0 es) (sym same) (plan_spelled m es writable) short
