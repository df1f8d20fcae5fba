use Rattle.std.proofs.Common.{◌≡◌, ℕ, ◌+◌, ◌∷◌, [], ◌++◌, length, map, sym, ap, ◌∙◌, subst, arith}
use Rattle.std.proofs.lemmas.List.{length-map, map_push}
use Rattle.hs_base.specs.declared.ids.PointId.{PointId}
use Rattle.hs_base.specs.Points.{horizon}
use Rattle.plan_index.specs.Named.{named, AreMarks}
use Rattle.plan_index.specs.declared.point_name.PointName.TheVariants.{Horizon}
use Rattle.plan_index.proofs.GrowthLemmas.{marks_push}
use Rattle.plan_index.proofs.growing.add_horizon.Goals as goal

pub returns-clause-marks : goal.returns-clause-marks
returns-clause-marks c =
    let names = c.args.names.now.items in
    let horizons = c.args.horizons.now.items in
    let x : PointId = record { 0 = c.len-number.result } in
    let many : c.len.result ≡ length horizons = omega (arith, c.len.ensures) in
    let pushed : map named c.push_reserved.new.self.items ≡ map named names ++ horizon (length horizons + 1) ∷ [] =
    ap (map named) c.push_reserved.ensures.items ∙ map_push named names (Horizon (c.len.result + 1)) ∙ ap (λ (k : ℕ). map named names ++ horizon (k + 1) ∷ []) many in
    let marks : AreMarks (map named names ++ horizon (length horizons + 1) ∷ []) (horizons ++ x ∷ []) = marks_push (map named names) horizons x (omega (arith, c.len-number.ensures, length-map names named)) c.requires.marks in
    subst (λ hs. AreMarks (map named c.push_reserved.new.self.items) hs) (sym c.push_reserved-2.ensures.items) (subst (λ ps. AreMarks ps (horizons ++ x ∷ [])) (sym pushed) marks)
