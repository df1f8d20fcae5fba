use Rattle.std.proofs.Common.{refl, ap, ◌∙◌}
use Rattle.hs_base.specs.Points.{horizon, ending, place_of, points_of}
use Rattle.plan_index.specs.Contents.{Contents, end_of}
use Rattle.plan_text.proofs.naming.point_of.Goals as goal

pub returns-in-Horizon : goal.returns-in-Horizon
returns-in-Horizon c = λ es h. rw c.in-Horizon.is (refl, c.horizon.ensures ∙ ap (λ (x : Contents). place_of (horizon c.in-Horizon.k) x.points) h)

pub returns-in_ok-token-in-End : goal.returns-in_ok-token-in-End
returns-in_ok-token-in-End c = λ es h.
    let named = c.in_ok-token-in-End.ensures in
    let t = c.in_ok-token-in-End.token in
    rw c.in-End.is (named.0, (t.sv.0, named.1.sv, c.end.ensures ∙ ap (λ (x : Contents). place_of (end_of t) x.points) h ∙ ap (λ i. place_of (ending t.sv.0 i) (points_of es)) named.1.place))
