use Rattle.std.proofs.Common.{◌≡◌, ℤ, ◌++◌, List, flat_map, length, ap, ◌∙◌, arith}
use Rattle.hs_base.specs.Points.{count}
use Rattle.hs_base.specs.declared.mission.Mission.{Mission}
use Rattle.hs_base.specs.declared.net.Bound.{Bound}
use Rattle.plan_check.proofs.WithinLemmas.{few_points}
use Rattle.plan_check.specs.Seen.{seen}
use Rattle.plan_index.specs.Contents.{Contents}
use Rattle.search_tree.specs.Begun.{begun_of}
use Rattle.timeline_db.proofs.OpeningLemmas.{lines_are, whole_fits}
use Rattle.timeline_db.specs.Opening.{line_bounds}
use Rattle.timeline_db.proofs.opening.opening_bounds.Goals as goal

pub overflow_cast-mark : goal.overflow_cast-mark
overflow_cast-mark c =
    omega (
      arith,
      few_points c.args.snapshot.now.plan.mission c.requires.begins.checked.mission c.args.snapshot.now.plan.plan.extensions c.requires.begins.checked.rules,
      c.points-mark.ensures ∙ ap (λ (x : Contents). length x.points) c.index.ensures,
    )

pub returns : goal.returns
returns c =
    let b = begun_of (seen c.args.snapshot.now) in
    let m = c.args.snapshot.now.plan.mission in
    let mark : c.points-mark.result ≡ count c.args.snapshot.now.plan.plan.extensions = c.points-mark.ensures ∙ ap (λ (x : Contents). length x.points) c.index.ensures in
    let all = lines_are m b c.requires.begins c.points-mark.result c.args.lines.now mark c.requires.rows in
    c.in_ok-push_lines.ensures
    ∙ ap (λ (z : ℤ). c.in_ok-made.made.items ++ flat_map (line_bounds c.mission.result.now c.points-mark.result z) c.args.lines.now) (whole_fits c.args.snapshot.now.since c.requires.begins.fixed.since)
    ∙ ap (λ (x : Mission). c.in_ok-made.made.items ++ flat_map (line_bounds x c.points-mark.result c.args.snapshot.now.since) c.args.lines.now) c.mission.ensures.mission
    ∙ ap (λ (l : List Bound). l ++ flat_map (line_bounds m c.points-mark.result c.args.snapshot.now.since) c.args.lines.now) c.in_ok-made.ensures
    ∙ all
