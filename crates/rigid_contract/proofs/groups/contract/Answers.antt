use Rattle.std.proofs.Common.{◌≡◌, ◌∙◌, ◌<◌, ◌++◌, ◌∷◌, [], List, ℕ, sym, ap, subst}
use Rattle.std.specs.Prelude.{filter}
use Rattle.std.proofs.lemmas.List.Elements.{All-filter}
use Rattle.hs_base.specs.declared.net.Group.{Group}
use Rattle.hs_base.specs.Schedule.{numbers_from}
use Rattle.stn_distance.specs.Distances.{weight}
use Rattle.rigid_contract.specs.Among.{is_loose, group_among, groups_among}
use Rattle.rigid_contract.proofs.AmongLemmas.{points_below, groups_are}
use Rattle.rigid_contract.proofs.groups.contract.Goals as goal

pub loose_points-requires-clause-points : goal.loose_points-requires-clause-points
loose_points-requires-clause-points c = rw (c.deref.ensures.value, c.in_ok-all.ensures, c.points.ensures.count) (points_below c.args.dist.now.count)

pub group_led-requires-clause-points : goal.group_led-requires-clause-points
group_led-requires-clause-points c = rw (c.deref-2.ensures.value, c.in_ok-all.ensures, c.points.ensures.count) (points_below c.args.dist.now.count)

pub push_groups-requires : goal.push_groups-requires
push_groups-requires c =
    let n = c.args.dist.now.count in
    rw (c.deref-3.ensures.value, c.in_ok-loose.ensures, c.deref.ensures.value, c.in_ok-all.ensures, c.points.ensures.count)
    (All-filter (is_loose (weight c.args.dist.now)) (λ p. p < n) (numbers_from 0 n) (points_below n))

pub returns : goal.returns
returns c =
    let n = c.args.dist.now.count in let d = weight c.args.dist.now in
    let all : c.in_ok-all.all.items ≡ numbers_from 0 n = c.in_ok-all.ensures ∙ ap (numbers_from 0) c.points.ensures.count in
    let loose : c.in_ok-loose.loose.items ≡ filter (is_loose d) (numbers_from 0 n) = c.in_ok-loose.ensures ∙ ap (filter (is_loose d)) (c.deref.ensures.value ∙ all) in
    let first : c.in_ok-group_led.field-0 ≡ group_among d (numbers_from 0 n) 0 = c.in_ok-group_led.ensures ∙ ap (λ (ps : List ℕ). group_among d ps 0) (c.deref-2.ensures.value ∙ all) in
    let start : c.push.new.self.items ≡ group_among d (numbers_from 0 n) 0 ∷ [] =
    c.in_ok-push.ensures.items ∙ ap (λ (gs : List Group). gs ++ c.in_ok-group_led.field-0 ∷ []) c.new-groups.ensures.items ∙ ap (λ (g : Group). g ∷ []) first in
    let others = c.in_ok-push_groups.ensures in
    let end : c.push_groups.new.groups.items ≡ group_among d (numbers_from 0 n) 0 ∷ groups_among d (filter (is_loose d) (numbers_from 0 n)) (filter (is_loose d) (numbers_from 0 n)) =
    others ∙ ap (λ (gs : List Group). gs ++ groups_among d c.deref-3.result.now c.deref-3.result.now) start
    ∙ ap (λ (ps : List ℕ). group_among d (numbers_from 0 n) 0 ∷ groups_among d ps ps) (c.deref-3.ensures.value ∙ loose) in
    c.from_vec.ensures ∙ end ∙ sym (groups_are n c.args.dist.now.bounds d c.points.ensures.table (subst (λ (k : ℕ). 0 < k) c.points.ensures.count c.points.ensures.some))
