use Rattle.std.proofs.Common.{[], ◌∷◌, ◌++◌, ℤ, Bool, cond, ap, ◌∙◌}
use Rattle.std.specs.Prelude.{neg_ℤ}
use Rattle.hs_base.specs.Bounds.{is_fixed}
use Rattle.hs_base.specs.Schedule.{bound}
use Rattle.plan_check.specs.Seen.{seen}
use Rattle.search_tree.specs.Begun.{begun_of, stub}
use Rattle.timeline_db.proofs.OpeningLemmas.{whole_fits}
use Rattle.token_net.proofs.ItemLemmas.{flat_numbers, grown}
use Rattle.timeline_db.proofs.opening.push_since.Goals as goal

pub loop-x-preserved : goal.loop-x-preserved
loop-x-preserved c =
    let s = c.args.snapshot.now in
    let x = c.loop-x.x in
    let fixed = is_fixed (stub (begun_of (seen s))) in
    grown _ _ _ _ _ _
    (c.in_ok-push_since_at.ensures
    ∙ ap (λ (z : ℤ). c.loop-x.made.items ++ cond c.was_executed-executed.result [] (bound x 0 (neg_ℤ z) ∷ [])) (whole_fits s.since c.requires.time)
    ∙ ap (λ (b : Bool). c.loop-x.made.items ++ cond b [] (bound x 0 (neg_ℤ s.since) ∷ [])) c.was_executed-executed.ensures)
    c.loop-x.invariant
    (flat_numbers (λ x. cond (fixed x) [] (bound x 0 (neg_ℤ s.since) ∷ [])) 1 x c.loop-x.auto.x)
