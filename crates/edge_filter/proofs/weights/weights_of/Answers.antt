use Rattle.std.proofs.Common.{◌≡◌, ◌∙◌, ◌++◌, ◌∷◌, [], ℕ, ℤ, List, to_z, of_z, w64, length, get_or, map, take, sym, ap, arith}
use Rattle.std.proofs.lemmas.Int.{ints}
use Rattle.std.proofs.lemmas.List.{length-map, map_push, take_all, take_more}
use Rattle.std.proofs.lemmas.List.Elements.{All-push}
use Rattle.stn_distance.specs.Distances.{weight}
use Rattle.edge_filter.specs.Sides.{along}
use Rattle.edge_filter.specs.Weights.{IsNear}
use Rattle.edge_filter.proofs.weights.weights_of.Goals as goal

pub loop-other-preserved : goal.loop-other-preserved
loop-other-preserved c =
    let h = c.loop-other.invariant in let leaders = c.args.leaders.now in let i = c.loop-other.other-index in let x = get_or leaders i 0 in
    let f : ℕ → ℤ = along c.args.side (weight c.args.dist.now) c.args.leader in
    let near = c.along.ensures.near in let low = near.0 in let high = near.1 in
    let plain : to_z w64 (of_z w64 c.along.result) ≡ c.along.result = omega (arith, ints) in
    let is : c.along.result ≡ f x = c.along.ensures.weight in
    rw (c.in_ok-push.ensures.items, plain, is) (record {
      weights = ap (λ (ys : List ℤ). ys ++ f x ∷ []) h.weights ∙ sym (map_push f (take i leaders) x) ∙ ap (map f) (sym (take_more leaders i 0 (omega arith)));
      near = All-push IsNear c.loop-other.row.items (f x) h.near (record { low = omega (arith, ints); high = omega (arith, ints) });
    })

pub returns-clause-row : goal.returns-clause-row
returns-clause-row c =
    let h = c.loop-other.invariant in let leaders = c.args.leaders.now in let i = c.loop-other.other-index in
    let f : ℕ → ℤ = along c.args.side (weight c.args.dist.now) c.args.leader in
    record {
      long = ap (λ (ys : List ℤ). length ys) h.weights ∙ length-map (take i leaders) f ∙ ap (λ (ys : List ℕ). length ys) (take_all i leaders (omega arith));
      near = h.near;
    }
