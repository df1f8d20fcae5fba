use Rattle.std.proofs.Common.{◌≡◌, ◌++◌, None, ap, sym, subst, ◌∙◌, append-nil}
use Rattle.std.proofs.lemmas.Option.{slice_get_past}
use Rattle.std.specs.Prelude.{slice_get}
use Rattle.hs_base.specs.Bounds.{on_some}
use Rattle.token_net.specs.Items.{goal_items}
use Rattle.token_net.proofs.items.add_goals_of.Goals as goal

pub returns-in-None : goal.returns-in-None
returns-in-None c =
    let none : slice_get c.args.mission.now.horizons c.args.number ≡ None = subst (λ l. slice_get l c.args.number ≡ None) c.as_slice.ensures (slice_get_past c.as_slice.result.now c.args.number c.in-None.ensures.lookup.3) in
    sym (ap (λ o. c.args.made.now ++ goal_items c.args.index.now (on_some o (λ h. h.goals)) c.args.entries.now) none ∙ append-nil c.args.made.now)
