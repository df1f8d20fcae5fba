-- The bounds of points by flags.
use Rattle.std.specs.Prelude.{ℕ, ◌-◌, Bool, false, cond, ℤ, neg_ℤ, List, [], ◌∷◌, flat_map, get_or}
use Rattle.hs_base.specs.declared.net.Bound.{Bound}
use Rattle.hs_base.specs.Schedule.{bound, numbers_from}

-- each of n points but Z that has no flag stands at that time or later
abbrev pub since_rows : List Bool → ℕ → ℤ → List Bound
since_rows fixed n since = flat_map (λ x. cond (get_or fixed x false) [] (bound x 0 (neg_ℤ since) ∷ [])) (numbers_from 1 (n - 1))
