-- The bounds that an extension brings, by what is to know of the plan with it.
use Rattle.std.specs.Prelude.{ℕ, zero, suc, ◌-◌, cond, ℤ, neg_ℤ, negsuc, List, [], ◌∷◌, ◌++◌, length, map, flat_map, slice_get, Option}
use Rattle.hs_base.specs.declared.net.Bound.{Bound}
use Rattle.hs_base.specs.declared.mission.Kind.{Kind}
use Rattle.hs_base.specs.declared.mission.Choice.{Choice}
use Rattle.hs_base.specs.declared.mission.Goal.{Goal}
use Rattle.hs_base.specs.declared.mission.Mission.{Mission}
use Rattle.hs_base.specs.declared.plan.TokenRef.{TokenRef}
use Rattle.hs_base.specs.declared.plan.Support.{Support}
use Rattle.hs_base.specs.declared.plan.Extension.{Extension}
use Rattle.hs_base.specs.Schedule.{bound, numbers_from}
use Rattle.hs_base.specs.Points.{Point, ending, place_of, timeline_of, value_of}
use Rattle.hs_base.specs.Needs.{need_of, choice_by}
use Rattle.hs_base.specs.Bounds.{apart, exactly, on_some, relation_bounds, point_bounds, fixed_bounds}
use Rattle.plan_index.specs.declared.point_name.PointName.{PointName}
use Rattle.plan_index.specs.declared.point_name.PointName.TheVariants.{Origin, Horizon, End}
use Rattle.plan_index.specs.Contents.{Contents, end_of, start_of}
use Rattle.plan_index.specs.Named.{has_time}

-- the points at which a token starts and ends, and its kind
abbrev pub first_of : Contents → TokenRef → ℕ
first_of c t = start_of c.points t

abbrev pub last_of : Contents → TokenRef → ℕ
last_of c t = place_of (end_of t) c.points

abbrev pub kind_of : Contents → TokenRef → Option Kind
kind_of c t = slice_get (timeline_of c.tokens t.sv.0) t.place

-- the token that ends at a point
abbrev pub token_ended : PointName → List TokenRef
token_ended Origin = []
token_ended (Horizon k) = []
token_ended (End t) = t ∷ []

-- the tokens that end at points of these names
abbrev pub tokens_ended : List PointName → List TokenRef
tokens_ended names = flat_map token_ended names

-- a token lasts as long as its value may
abbrev pub length_item : Mission → Contents → TokenRef → List Bound
length_item m c t = on_some (kind_of c t) (λ k. on_some (value_of m k) (λ v. apart (last_of c t) (first_of c t) v.lasts))

abbrev pub length_items : Mission → Contents → List TokenRef → List Bound
length_items m c new = flat_map (length_item m c) new

-- tokens start before the horizon, which is point h
abbrev pub start_items : Contents → ℕ → List TokenRef → List Bound
start_items c h new = map (λ t. bound h (first_of c t) (negsuc 0)) new

-- the last of so many tokens ends after it
abbrev pub after_horizon : List Point → ℕ → ℕ → ℕ → List Bound
after_horizon points h v zero = []
after_horizon points h v (suc i) = bound (place_of (ending v i) points) h (negsuc 0) ∷ []

abbrev pub last_item : Contents → ℕ → ℕ → List Bound
last_item c h v = after_horizon c.points h v (length (timeline_of c.tokens v))

abbrev pub last_items : Contents → ℕ → ℕ → List Bound
last_items c h vars = flat_map (last_item c h) (numbers_from 0 vars)

-- a support keeps the relation of the choice that its token is for
abbrev pub support_item : Mission → Contents → Support → List Bound
support_item m c s = on_some (need_of m (kind_of c s.token) s.need) (λ need. on_some (kind_of c s.by) (λ k. on_some (choice_by need k) (λ (x : Choice). relation_bounds x.relation (first_of c s.token) (last_of c s.token) (first_of c s.by) (last_of c s.by))))

abbrev pub support_items : Mission → Contents → List Support → List Bound
support_items m c supports = flat_map (support_item m c) supports

-- a goal's token starts and stops in the goal's ranges
abbrev pub goal_item : Contents → Goal → TokenRef → List Bound
goal_item c g t = apart (first_of c t) 0 g.start ++ apart (last_of c t) 0 g.stop

abbrev pub goal_items : Contents → List Goal → List TokenRef → List Bound
goal_items c [] ts = []
goal_items c (g ∷ gs) [] = []
goal_items c (g ∷ gs) (t ∷ ts) = goal_item c g t ++ goal_items c gs ts

-- a point that isn't fixed stands at that time or later
abbrev pub since_item : Contents → ℤ → ℕ → List Bound
since_item c since x = cond (has_time c.fixed x) [] (bound x 0 (neg_ℤ since) ∷ [])

abbrev pub since_items : Contents → ℤ → List Bound
since_items c since = flat_map (since_item c since) (numbers_from 1 (length c.points - 1))

-- all bounds of the extension of that number, counted from 0, by its horizon point and its tokens
abbrev pub extension_items : Mission → Contents → ℕ → ℕ → List TokenRef → Extension → List Bound
extension_items m c number mark new e =
    on_some (slice_get m.horizons number) (λ h. exactly mark h.tick) ++ point_bounds mark (length c.points - mark) ++ length_items m c new ++ start_items c mark new
    ++ last_items c mark (length m.vars) ++ support_items m c e.supports ++ goal_items c (on_some (slice_get m.horizons number) (λ h. h.goals)) e.goals
    ++ fixed_bounds e.fixed ++ since_items c e.since
