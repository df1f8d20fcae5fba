-- A search that computes, to try the definitions on samples.
use Rattle.std.specs.List.{list_all}
use Rattle.std.specs.Prelude.{Bool, List, [], cond, false, get_or, int_le, int_lt, map, pos, set, suc, true, zero, ℕ, ℤ, ◌++◌, ◌+ℤ◌, ◌∷◌}
use Rattle.hs_base.specs.Schedule.{numbers_from}
use Rattle.hs_base.specs.declared.mission.Mission.{Mission}
use Rattle.hs_base.specs.declared.net.Bound.{Bound}
use Rattle.search_tree.specs.Begun.{Begun}
use Rattle.search_tree.specs.PartialBounds.{partial_bounds}
use Rattle.search_tree.specs.Search.{Node, offspring, root}

abbrev pub relaxed : List ℤ → Bound → List ℤ
relaxed d b =
    let new = get_or d b.from.0 (pos 0) +ℤ b.most in
    cond (int_lt new (get_or d b.to.0 (pos 0))) (set d b.to.0 new) d

abbrev pub sweep : List ℤ → List Bound → List ℤ
sweep d [] = d
sweep d (b ∷ bs) = sweep (relaxed d b) bs

abbrev pub sweeps : ℕ → List Bound → List ℤ → List ℤ
sweeps zero bs d = d
sweeps (suc n) bs d = sweeps n bs (sweep d bs)

abbrev pub has_schedule : ℕ → List Bound → Bool
has_schedule n bs =
    let d = sweeps n bs (map (λ i. pos 0) (numbers_from 0 n)) in
    list_all (λ (b : Bound). int_le (get_or d b.to.0 (pos 0)) (get_or d b.from.0 (pos 0) +ℤ b.most)) bs

-- the paths of the first nodes, with true where the bounds have a schedule
abbrev pub visit : (Node → Bool) → Mission → Begun → ℕ → List Node → List (Bool × List ℕ) → List (Bool × List ℕ)
visit good m b zero forest seen = seen
visit good m b (suc n) [] seen = seen
visit good m b (suc n) (x ∷ forest) seen =
    elim (good x) [
      | true ↦ visit good m b n (offspring m b x ++ forest) (seen ++ (true, x.path) ∷ [])
      | false ↦ visit good m b n forest (seen ++ (false, x.path) ∷ [])
    ]

abbrev pub is_good : Mission → Begun → Node → Bool
is_good m b x = has_schedule x.plan.points (partial_bounds m b x.plan)

abbrev pub visits : Mission → Begun → ℕ → List (Bool × List ℕ)
visits m b n = visit (is_good m b) m b n (root m b ∷ []) []

-- the partial plan at a path
abbrev pub child : Mission → Begun → Node → List ℕ → Node
child m b x [] = x
child m b x (i ∷ is) = child m b (get_or (offspring m b x) i x) is

abbrev pub node_at : Mission → Begun → List ℕ → Node
node_at m b path = child m b (root m b) path
