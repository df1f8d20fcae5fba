-- The extension that a partial plan stands for.
use Rattle.std.specs.Prelude.{List, [], cond, filter, flat_map, length, map, nat_eq, suc, ℕ, ◌&&◌, ◌∷◌}
use Rattle.hs_base.specs.Bounds.{on_some}
use Rattle.hs_base.specs.Needs.{needs_of}
use Rattle.hs_base.specs.Schedule.{numbers_from}
use Rattle.hs_base.specs.declared.mission.Mission.{Mission}
use Rattle.hs_base.specs.declared.plan.Extension.{Extension}
use Rattle.hs_base.specs.declared.plan.Support.{Support}
use Rattle.hs_base.specs.declared.plan.TokenRef.{TokenRef}
use Rattle.search_tree.specs.Begun.{Begun}
use Rattle.search_tree.specs.Flaws.{flat_map_from}
use Rattle.search_tree.specs.Partial.{Partial, Row, at, cells, row}
use Rattle.search_tree.specs.declared.backing.Backing.{Backing}
use Rattle.search_tree.specs.declared.held.Cell.{Cell}
use Rattle.search_tree.specs.declared.held.Held.{Held}

-- the place of the token that ends there, where i is the place of the first one
abbrev pub place_in : ℕ → ℕ → List Cell → ℕ
place_in x i [] = i
place_in x i (c ∷ cs) = cond (nat_eq c.held.stop x) i (place_in x (suc i) cs)

abbrev pub ref_of : Partial → Held → TokenRef
ref_of p x = at x.kind.sv.0 (place_in x.stop 0 (cells (row p x.kind.sv.0)))

-- the supports of the token at that place, by need
abbrev pub supports_at : Mission → Partial → ℕ → ℕ → Cell → List Support
supports_at m p v i c =
    flat_map (λ j. flat_map (λ (s : Backing). record { token = at v i; need = j; by = ref_of p s.by } ∷ []) (filter (λ (s : Backing). nat_eq s.token.stop c.held.stop && nat_eq s.need j) p.supports)) (numbers_from 0 (length (needs_of m c.held.kind)))

-- tokens by variable and place, supports by token and need, goals by number
abbrev pub extension : Mission → Begun → Partial → Extension
extension m b p = record {
  base = length b.base;
  since = b.since;
  fixed = b.fixed;
  tokens = flat_map (λ (r : Row). map (λ (c : Cell). c.held.kind) r.added) p.rows;
  supports = flat_map_from (λ v (r : Row). flat_map_from (supports_at m p v) 0 (cells r)) 0 p.rows;
  goals = flat_map (λ o. on_some o (λ x. ref_of p x ∷ [])) p.goals;
}
