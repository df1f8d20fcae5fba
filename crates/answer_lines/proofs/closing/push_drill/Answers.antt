use Rattle.std.proofs.Common.{◌≡◌, ◌++◌, OnOk, ap, ◌∙◌, codes, subst, append_assoc}
use Rattle.std.specs.Fmt.{decimal}
use Rattle.answer_lines.proofs.closing.push_drill.Goals as goal

pub returns : goal.returns
returns c =
    let horizons = codes "drill horizons " ++ decimal c.args.horizons in
    let points = codes " points " ++ decimal c.args.points in
    let deeds = codes " fires " ++ decimal c.args.fires ++ codes " reports " ++ decimal c.args.reports ++ codes " now " ++ decimal c.args.tick ++ codes "\n" in
    let begun = c.in_ok-push_part-2.ensures ∙ ap (λ t. t ++ points) c.in_ok-push_part.ensures in
    let regroup : c.args.text.now ++ horizons ++ points ++ deeds ≡ c.args.text.now ++ (codes "drill horizons " ++ decimal c.args.horizons ++ codes " points " ++ decimal c.args.points ++ codes " fires " ++ decimal c.args.fires ++ codes " reports " ++ decimal c.args.reports ++ codes " now " ++ decimal c.args.tick ++ codes "\n") =
    simp append_assoc in
    subst (λ t. OnOk c.push_deeds.result (c.push_deeds.new.text ≡ t)) (ap (λ t. t ++ deeds) begun ∙ regroup) c.push_deeds.ensures
