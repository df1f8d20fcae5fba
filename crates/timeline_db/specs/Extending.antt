-- The supports of a partial plan, as the code finds them.
use Rattle.std.specs.Prelude.{◌≡◌, ◌<◌, ◌^◌, ◌-◌, ◌&&◌, ◌∷◌, [], List, Some, ℕ, drop, filter, flat_map, length, map, nat_eq, slice_get}
use Rattle.hs_base.specs.declared.mission.Mission.{Mission}
use Rattle.hs_base.specs.declared.plan.Support.{Support}
use Rattle.hs_base.specs.declared.plan.TokenRef.{TokenRef}
use Rattle.search_tree.specs.Extends.{ref_of, supports_at}
use Rattle.search_tree.specs.Flaws.{flat_map_from}
use Rattle.search_tree.specs.Partial.{Partial}
use Rattle.search_tree.specs.declared.backing.Backing.{Backing}
use Rattle.timeline_db.specs.Lines.{Shown, cell_of}
use Rattle.timeline_db.specs.Tracked.{IsLine}

-- the tokens of each line stand as they should, and 32 bits count them
abbrev pub AreShort : List Shown → Type 0
AreShort lines = (v : ℕ) (s : Shown) → slice_get lines v ≡ Some s → IsLine s × (length s.tokens < 2 ^ 32)

-- those of these supports that are for need j of the token that ends at the point x, where t is its name
abbrev pub named_from : Partial → TokenRef → ℕ → ℕ → List Backing → List Support
named_from p t x j ss = flat_map (λ (s : Backing). record { token = t; need = j; by = ref_of p s.by } ∷ []) (filter (λ (s : Backing). nat_eq s.token.stop x && nat_eq s.need j) ss)

-- the supports of the tokens of a line of variable v from that place on, by place and need
abbrev pub supports_from : Mission → Partial → ℕ → ℕ → Shown → List Support
supports_from m p v i s = flat_map_from (supports_at m p v) i (drop i (map cell_of s.tokens))

-- those of the tokens from the last one of the plan that is extended on
abbrev pub late_supports : Mission → Partial → ℕ → Shown → List Support
late_supports m p v s = supports_from m p v (s.given - 1) s
