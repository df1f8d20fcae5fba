use Rattle.std.proofs.Common.{◌≡◌, ◌++◌, ◌-◌, length, ap, subst, ◌∙◌, to_z-of_z, w64, arith}
use Rattle.std.proofs.lemmas.Int.{ints}
use Rattle.std.specs.Prelude.{slice_get, FitsSigned}
use Rattle.hs_base.specs.Bounds.{on_some, exactly, point_bounds, fixed_bounds}
use Rattle.token_net.specs.Items.{length_items, start_items, last_items, support_items, goal_items, since_items}
use Rattle.token_net.proofs.ItemLemmas.{and_then}
use Rattle.token_net.proofs.bounding.add_extension.Goals as goal

pub returns : goal.returns
returns c =
    let m = c.args.mission.now in
    let x = c.args.index.now in
    let e = c.args.extension.now in
    let mark = c.args.mark.0 in
    let h1 : c.add_horizon.new.made ≡ c.args.made.now ++ on_some (slice_get m.horizons c.args.number) (λ h. exactly mark h.tick) = c.in_ok-add_horizon.ensures in
    let h2 : c.add_points.new.made ≡ c.add_horizon.new.made ++ point_bounds mark (length x.points - mark) = c.in_ok-add_points.ensures ∙ ap (λ n. c.add_horizon.new.made ++ point_bounds mark (n - mark)) c.points-points.ensures in
    let h3 : c.add_lengths.new.made ≡ c.add_points.new.made ++ length_items m x c.args.new.now = c.in_ok-add_lengths.ensures in
    let h4 : c.add_starts.new.made ≡ c.add_lengths.new.made ++ start_items x mark c.args.new.now = c.in_ok-add_starts.ensures in
    let h5 : c.add_lasts.new.made ≡ c.add_starts.new.made ++ last_items x mark (length m.vars) = c.in_ok-add_lasts.ensures ∙ ap (λ n. c.add_starts.new.made ++ last_items x mark n) c.len.ensures in
    let h6 : c.add_supports.new.made ≡ c.add_lasts.new.made ++ support_items m x e.supports = subst (λ l. c.add_supports.new.made ≡ c.add_lasts.new.made ++ support_items m x l) c.as_slice.ensures c.in_ok-add_supports.ensures in
    let h7 : c.add_goals_of.new.made ≡ c.add_supports.new.made ++ goal_items x (on_some (slice_get m.horizons c.args.number) (λ h. h.goals)) e.goals = subst (λ l. c.add_goals_of.new.made ≡ c.add_supports.new.made ++ goal_items x (on_some (slice_get m.horizons c.args.number) (λ h. h.goals)) l) c.as_slice-2.ensures c.in_ok-add_goals_of.ensures in
    let h8 : c.add_fixed.new.made ≡ c.add_goals_of.new.made ++ fixed_bounds e.fixed = subst (λ l. c.add_fixed.new.made ≡ c.add_goals_of.new.made ++ fixed_bounds l) c.as_slice-3.ensures c.in_ok-add_fixed.ensures in
    let low = c.requires.since.0 in
    let high = c.requires.since.1 in
    let fits : FitsSigned w64 e.since = omega (arith, ints, low, high) in
    let h9 : c.add_since.new.made ≡ c.add_fixed.new.made ++ since_items x e.since = rw (to_z-of_z fits) at c.in_ok-add_since.ensures in
    and_then _ _ _ _ _ (and_then _ _ _ _ _ (and_then _ _ _ _ _ (and_then _ _ _ _ _ (and_then _ _ _ _ _ (and_then _ _ _ _ _ (and_then _ _ _ _ _ (and_then _ _ _ _ _ h1 h2) h3) h4) h5) h6) h7) h8) h9
