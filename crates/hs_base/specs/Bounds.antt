-- The bounds of a plan, extension by extension.
use Rattle.std.specs.Prelude.{ℕ, zero, suc, ◌+◌, ◌-◌, Bool, cond, nat_eq, ℤ, pos, negsuc, neg_ℤ, List, [], ◌∷◌, ◌++◌, length, map, flat_map, slice_get, Option, Some, None}
use Rattle.std.specs.List.{list_any}
use Rattle.hs_base.specs.Types.{Bound, Range, Relation, Before, After, MeetsStart, MetBy, Starts, Ends, Equals, Encloses, ContainedBy, TokenRef, Choice, Goal, Horizon, Support, Extension, Mission, Time}
use Rattle.hs_base.specs.Walks.{join_after}
use Rattle.hs_base.specs.Schedule.{Schedule, Meets, bound, numbers_from}
use Rattle.hs_base.specs.Ranges.{range, whole}
use Rattle.hs_base.specs.Points.{tokens_of, timeline_of, refs_after, count, start, stop, hor, value_of, token_at}
use Rattle.hs_base.specs.Needs.{need_at, choice_by}

-- x - y in [low, high]
abbrev pub apart : ℕ → ℕ → Range → List Bound
apart x y r = bound y x r.high ∷ bound x y (neg_ℤ r.low) ∷ []

-- x is exactly at the time
abbrev pub exactly : ℕ → ℤ → List Bound
exactly x at = apart x 0 (range at at)

-- x is exactly where y is
abbrev pub together : ℕ → ℕ → List Bound
together x y = apart x y (range (pos 0) (pos 0))

-- the table of relations: x and x' are start and end of the token with the need, y and y' those of the one that serves it
abbrev pub relation_bounds : Relation → ℕ → ℕ → ℕ → ℕ → List Bound
relation_bounds (Before r) x x' y y' = apart y x' r
relation_bounds (After r) x x' y y' = apart x y' r
relation_bounds MeetsStart x x' y y' = together y x'
relation_bounds MetBy x x' y y' = together x y'
relation_bounds (Starts r) x x' y y' = apart y x r
relation_bounds (Ends r) x x' y y' = apart y' x' r
relation_bounds Equals x x' y y' = together y x ++ together y' x'
relation_bounds (Encloses a b) x x' y y' = apart y x a ++ apart x' y' b
relation_bounds (ContainedBy a b) x x' y y' = apart x y a ++ apart y' x' b

-- what f gives where there is a value
abbrev pub on_some : {X Y : Type 0} → Option X → (X → List Y) → List Y
on_some None f = []
on_some (Some x) f = f x

-- the point is one that one of the extensions fixes
abbrev pub is_fixed : List Extension → ℕ → Bool
is_fixed es x = list_any (λ (e : Extension). list_any (λ (f : Time). nat_eq f.point.0 x) e.fixed) es

-- the goals of horizon k, counted from 1
abbrev pub goals_of : Mission → ℕ → List Goal
goals_of m k = on_some (slice_get m.horizons (k - 1)) (λ (h : Horizon). h.goals)

-- In what follows es is the plan up to an extension and with it, k the number of its extensions, and new are
-- the extension's tokens.

-- the horizon point is exactly at the horizon
abbrev pub horizon_bounds : Mission → List Extension → ℕ → List Bound
horizon_bounds m es k = on_some (slice_get m.horizons (k - 1)) (λ (h : Horizon). exactly (hor es k) h.tick)

-- n points from that number on stand within 0 to LAST
abbrev pub point_bounds : ℕ → ℕ → List Bound
point_bounds from n = flat_map (λ x. apart x 0 whole) (numbers_from from n)

-- a new token lasts as long as its value may
abbrev pub length_bounds : Mission → List Extension → List TokenRef → List Bound
length_bounds m es new = flat_map (λ t. on_some (token_at es t) (λ k. on_some (value_of m k) (λ v. apart (stop es t) (start es t) v.lasts))) new

-- a new token starts before the horizon
abbrev pub start_bounds : List Extension → ℕ → List TokenRef → List Bound
start_bounds es k new = map (λ t. bound (hor es k) (start es t) (negsuc 0)) new

-- the end of the last of so many tokens stands after the horizon
abbrev pub last_bound : List Extension → ℕ → ℕ → ℕ → List Bound
last_bound es k v zero = []
last_bound es k v (suc i) = bound (stop es (record { sv = record { 0 = v }; place = i })) (hor es k) (negsuc 0) ∷ []

-- each timeline ends after the horizon
abbrev pub last_bounds : Mission → List Extension → ℕ → List Bound
last_bounds m es k = flat_map (λ v. last_bound es k v (length (timeline_of (tokens_of es) v))) (numbers_from 0 (length m.vars))

-- a support keeps the relation of the choice that its token is for
abbrev pub support_bounds : Mission → List Extension → List Support → List Bound
support_bounds m es supports =
    flat_map (λ s. on_some (need_at m es s.token s.need) (λ n. on_some (token_at es s.by) (λ k. on_some (choice_by n k) (λ (c : Choice). relation_bounds c.relation (start es s.token) (stop es s.token) (start es s.by) (stop es s.by))))) supports

-- a goal's token starts and stops in the goal's ranges
abbrev pub goal_bounds : List Extension → List Goal → List TokenRef → List Bound
goal_bounds es [] ts = []
goal_bounds es (g ∷ gs) [] = []
goal_bounds es (g ∷ gs) (t ∷ ts) = apart (start es t) 0 g.start ++ apart (stop es t) 0 g.stop ++ goal_bounds es gs ts

-- a fixed point has its time
abbrev pub fixed_bounds : List Time → List Bound
fixed_bounds fixed = flat_map (λ f. exactly f.point.0 f.at) fixed

-- every other point but Z stands at that time or later
abbrev pub since_bounds : List Extension → ℤ → List Bound
since_bounds es since = flat_map (λ x. cond (is_fixed es x) [] (bound x 0 (neg_ℤ since) ∷ [])) (numbers_from 1 (count es - 1))

-- the bounds that an extension adds to those before it
abbrev pub new_bounds : Mission → List Extension → Extension → List Bound
new_bounds m before e =
    let es = before ++ e ∷ [] in
    let k = length before + 1 in
    let new = refs_after (tokens_of before) e.tokens in
    horizon_bounds m es k ++ point_bounds (count before) (count es - count before) ++ length_bounds m es new ++ start_bounds es k new
    ++ last_bounds m es k ++ support_bounds m es e.supports ++ goal_bounds es (goals_of m k) e.goals ++ fixed_bounds e.fixed ++ since_bounds es e.since

abbrev pub bounds_of : Mission → List Extension → List Bound
bounds_of m es = join_after (new_bounds m) [] es

-- s is a schedule of the plan
abbrev pub IsScheduleOf : Mission → List Extension → Schedule → Type 0
IsScheduleOf m es s = Meets (bounds_of m es) s
