-- Parts of lists of resolvers.
use Rattle.std.specs.List.{list_any}
use Rattle.std.specs.Prelude.{List, None, Some, [], cond, flat_map, map, nat_eq, slice_get, suc, ℕ, ◌&&◌, ◌++◌, ◌∷◌}
use Rattle.hs_base.specs.Needs.{is_deferrable, same_kind}
use Rattle.hs_base.specs.declared.ids.ValId.{ValId}
use Rattle.hs_base.specs.declared.mission.Kind.{Kind}
use Rattle.hs_base.specs.declared.mission.Choice.{Choice}
use Rattle.hs_base.specs.declared.mission.Need.{Need}
use Rattle.hs_base.specs.declared.plan.TokenRef.{TokenRef}
use Rattle.search_tree.specs.Begun.{Begun}
use Rattle.search_tree.specs.Flaws.{flat_map_from}
use Rattle.search_tree.specs.Partial.{Partial, at}
use Rattle.search_tree.specs.Resolvers.{is_last, wanted}
use Rattle.search_tree.specs.declared.flaw.Resolver.{Resolver}
use Rattle.search_tree.specs.declared.flaw.Resolver.TheVariants.{Connect, Defer, Finish, Insert, Join}
use Rattle.search_tree.specs.declared.held.Cell.{Cell}

-- the tokens of that kind, from place i on
abbrev pub connects : Kind → ℕ → List Cell → List Resolver
connects k i cs = flat_map_from (λ i (c : Cell). cond (same_kind c.held.kind k) (Connect (at k.sv.0 i) ∷ []) []) i cs

-- a new token of that kind behind each of these places
abbrev pub inserts : Kind → List ℕ → List Resolver
inserts k places = map (λ i. Insert k.sv i k.value) places

-- the closing behind place i: of the end, or of a gap if the token there has one of these values
abbrev pub closing : List Cell → ℕ → List ValId → List Resolver
closing cs i next =
    elim (slice_get cs (suc i)) [
      | None ↦ Finish ∷ []
      | Some d ↦ cond (list_any (λ (n : ValId). nat_eq n.0 d.held.kind.value.0) next) (Join ∷ []) []
    ]

-- the ways to serve a need of the token
abbrev pub ways : Begun → Partial → TokenRef → Need → List Resolver
ways b p t n = flat_map (λ (c : Choice). wanted b p c.by) n.either ++ cond (is_deferrable n && is_last p t) (Defer ∷ []) []
