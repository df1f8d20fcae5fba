-- The resolvers of flaws.
use Rattle.std.specs.List.{list_any}
use Rattle.std.specs.Prelude.{Bool, List, [], cond, flat_map, length, map, nat_eq, nat_le, slice_get, suc, ℕ, ◌&&◌, ◌++◌, ◌+◌, ◌-◌, ◌∷◌}
use Rattle.hs_base.specs.Bounds.{goals_of, on_some}
use Rattle.hs_base.specs.Checked.{fixed_of}
use Rattle.hs_base.specs.Needs.{is_deferrable, needs_of, same_kind}
use Rattle.hs_base.specs.Points.{value_of}
use Rattle.hs_base.specs.declared.ids.ValId.{ValId}
use Rattle.hs_base.specs.declared.limits.TheConstants.{FREE_POINTS, NEW_TOKENS}
use Rattle.hs_base.specs.declared.mission.Choice.{Choice}
use Rattle.hs_base.specs.declared.mission.Goal.{Goal}
use Rattle.hs_base.specs.declared.mission.Kind.{Kind}
use Rattle.hs_base.specs.declared.mission.Mission.{Mission}
use Rattle.hs_base.specs.declared.mission.Need.{Need}
use Rattle.hs_base.specs.declared.mission.Value.{Value}
use Rattle.hs_base.specs.declared.plan.TokenRef.{TokenRef}
use Rattle.search_tree.specs.Begun.{Begun, number}
use Rattle.search_tree.specs.Flaws.{flat_map_from, slots}
use Rattle.search_tree.specs.Partial.{Partial, Row, at, cells, held_at, held_by, row}
use Rattle.search_tree.specs.Parts.{do_parts}
use Rattle.search_tree.specs.declared.flaw.Flaw.{Flaw}
use Rattle.search_tree.specs.declared.flaw.Flaw.TheVariants.{Gap as GapFlaw, Goal as GoalFlaw, Need as NeedFlaw}
use Rattle.search_tree.specs.declared.flaw.Resolver.{Resolver}
use Rattle.search_tree.specs.declared.flaw.Resolver.TheVariants.{Connect, Defer, Finish, Follow, Insert, Join}
use Rattle.search_tree.specs.declared.held.Cell.{Cell}
use Rattle.search_tree.specs.declared.held.Held.{Held}
use Rattle.search_tree.specs.declared.part.Part.{Part}
use Rattle.search_tree.specs.declared.part.Part.TheVariants.{Deferred, Finished, Followed, Inserted, Joined, MetGoal, Supported}

abbrev pub new_tokens : Partial → ℕ
new_tokens p = length (flat_map (λ (r : Row). r.added) p.rows)

abbrev pub tokens : Partial → ℕ
tokens p = length (flat_map cells p.rows)

-- the free points that the finished plan would have with so many more tokens
abbrev pub free_with : Begun → Partial → ℕ → ℕ
free_with b p more = (1 + number b + tokens p + more) - (length (fixed_of b.base) + length b.fixed)

-- one more token would be within the limits
abbrev pub has_room : Begun → Partial → Bool
has_room b p = nat_le (suc (new_tokens p)) NEW_TOKENS && nat_le (free_with b p 1) FREE_POINTS

abbrev pub growing : Begun → Partial → List Resolver → List Resolver
growing b p rs = cond (has_room b p) rs []

-- a token of that kind: one that is there, or a new one in a slot
abbrev pub wanted : Begun → Partial → Kind → List Resolver
wanted b p k =
    flat_map_from (λ i (c : Cell). cond (same_kind c.held.kind k) (Connect (at k.sv.0 i) ∷ []) []) 0 (cells (row p k.sv.0))
    ++ growing b p (map (λ i. Insert k.sv i k.value) (slots (row p k.sv.0)))

abbrev pub next_of : Mission → Kind → List ValId
next_of m k = on_some (value_of m k) (λ (v : Value). v.next)

-- a value that may follow the token
abbrev pub follows : Mission → Begun → Partial → Held → List Resolver
follows m b p x = growing b p (map (λ n. Follow n) (next_of m x.kind))

abbrev pub may_join : Mission → Held → Held → Bool
may_join m x y = list_any (λ (n : ValId). nat_eq n.0 y.kind.value.0) (next_of m x.kind)

abbrev pub is_last : Partial → TokenRef → Bool
is_last p t = nat_eq (suc t.place) (length (cells (row p t.sv.0)))

abbrev pub resolved : Mission → Begun → Partial → Flaw → List Resolver
resolved m b p (GoalFlaw i) = on_some (slice_get (goals_of m (number b)) i) (λ (g : Goal). wanted b p g.kind)
resolved m b p (NeedFlaw t j) =
    on_some (slice_get (needs_of m (held_by p t).kind) j) (λ (n : Need). flat_map (λ (c : Choice). wanted b p c.by) n.either ++ cond (is_deferrable n && is_last p t) (Defer ∷ []) [])
resolved m b p (GapFlaw v i) =
    cond (is_last p (at v.0 i)) (Finish ∷ []) (cond (may_join m (held_at p v.0 i) (held_at p v.0 (suc i))) (Join ∷ []) [])
    ++ follows m b p (held_at p v.0 i)

-- the resolvers in order: none where the plan has too many free points already
abbrev pub resolvers : Mission → Begun → Partial → Flaw → List Resolver
resolvers m b p f = cond (nat_le (free_with b p 0) FREE_POINTS) (resolved m b p f) []

-- the parts that a resolver does
abbrev pub connecting : Flaw → TokenRef → List Part
connecting (GoalFlaw i) by = MetGoal i by ∷ []
connecting (NeedFlaw t j) by = Supported t j by ∷ []
connecting (GapFlaw v i) by = []

abbrev pub parts_of : Partial → Flaw → Resolver → List Part
parts_of p f (Connect by) = connecting f by
parts_of p f (Insert v i value) = Inserted v i value ∷ connecting f (at v.0 (suc i))
parts_of p (NeedFlaw t j) Defer = cond (row p t.sv.0).finished [] (Finished t.sv ∷ []) ++ Deferred t j ∷ []
parts_of p (GapFlaw v i) Join = Joined v i ∷ []
parts_of p (GapFlaw v i) Finish = Finished v ∷ []
parts_of p (GapFlaw v i) (Follow value) = Followed v i value ∷ []
parts_of p f r = []

abbrev pub resolve : Partial → Flaw → Resolver → Partial
resolve p f r = do_parts p (parts_of p f r)
