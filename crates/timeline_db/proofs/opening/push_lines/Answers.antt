use Rattle.std.proofs.Common.{◌++◌, List, flat_map, ap, ◌∙◌, to_z, of_z, w64}
use Rattle.timeline_db.specs.Opening.{line_bounds, own_bounds}
use Rattle.timeline_db.specs.declared.token.Token.{Token}
use Rattle.token_net.proofs.ItemLemmas.{flat_more, grown}
use Rattle.timeline_db.proofs.opening.push_lines.Goals as goal

pub loop-line-preserved : goal.loop-line-preserved
loop-line-preserved c =
    let since = to_z w64 (of_z w64 c.args.since) in
    grown _ _ _ _ (line_bounds c.args.mission.now c.args.mark since c.line-item.result) _
    (c.in_ok-push_firsts.ensures ∙ ap (λ (l : List Token). c.loop-line.made.items ++ flat_map (λ (t : Token). own_bounds c.args.mission.now c.args.mark since t.held) l) c.added.ensures) c.loop-line.invariant
    (flat_more (line_bounds c.args.mission.now c.args.mark since) c.args.lines.now c.loop-line.line-index c.line-item.result c.loop-line-test.true c.line-item.is)
