-- The points of a plan: the origin Z, then for each extension its horizon and the ends of its tokens.
-- A point's number is the place of its name in that list.
use Rattle.std.specs.Prelude.{ℕ, zero, suc, ◌+◌, Bool, true, false, cond, ◌&&◌, nat_eq, List, [], ◌∷◌, length, map, filter, flat_map, slice_get, Option, Some, None}
use Rattle.hs_base.specs.Types.{Kind, TokenRef, Extension, Mission, Value}
use Rattle.hs_base.specs.Walks.{join_after}

-- a point by its name
pub data Point : Type 0 where
  origin : Point
  horizon : ℕ → Point
  ending : ℕ → ℕ → Point

-- whether two names are the same
abbrev pub same_point : Point → Point → Bool
same_point origin origin = true
same_point (horizon k) (horizon l) = nat_eq k l
same_point (ending v i) (ending w j) = nat_eq v w && nat_eq i j
same_point _ _ = false

-- the tokens of a list of extensions, in order
abbrev pub tokens_of : List Extension → List Kind
tokens_of es = flat_map (λ e. e.tokens) es

-- the timeline of a variable: a token's place is its index here
abbrev pub timeline_of : List Kind → ℕ → List Kind
timeline_of tokens v = filter (λ k. nat_eq k.sv.0 v) tokens

-- the token of that name in a list of tokens
abbrev pub ref_after : List Kind → Kind → TokenRef
ref_after before k = record { sv = k.sv; place = length (timeline_of before k.sv.0) }

-- the names of the tokens of a list, where `before` stands before it
abbrev pub refs_after : List Kind → List Kind → List TokenRef
refs_after before tokens = join_after (λ b k. ref_after b k ∷ []) before tokens

-- the points of an extension after those before it
abbrev pub new_points : List Extension → Extension → List Point
new_points before e = horizon (length before + 1) ∷ map (λ t. ending t.sv.0 t.place) (refs_after (tokens_of before) e.tokens)

-- all points, in the order of their numbers
abbrev pub points_of : List Extension → List Point
points_of es = origin ∷ join_after new_points [] es

-- the number of points
abbrev pub count : List Extension → ℕ
count es = length (points_of es)

-- the first place of a point in a list, or the list's length
abbrev pub place_of : Point → List Point → ℕ
place_of p [] = 0
place_of p (q ∷ qs) = cond (same_point p q) 0 (suc (place_of p qs))

-- the number of a token's end
abbrev pub stop : List Extension → TokenRef → ℕ
stop es t = place_of (ending t.sv.0 t.place) (points_of es)

-- the number of a token's start: the end of the token before it, or Z
abbrev pub start_at : List Extension → ℕ → ℕ → ℕ
start_at es v zero = 0
start_at es v (suc i) = place_of (ending v i) (points_of es)

-- the number of a token's start
abbrev pub start : List Extension → TokenRef → ℕ
start es t = start_at es t.sv.0 t.place

-- the number of the horizon point of extension k, counted from 1
abbrev pub hor : List Extension → ℕ → ℕ
hor es k = place_of (horizon k) (points_of es)

-- a value of the mission
abbrev pub value_of : Mission → Kind → Option Value
value_of m k = elim (slice_get m.vars k.sv.0) [ None ↦ None | Some var ↦ slice_get var.values k.value.0 ]

-- the token of that name
abbrev pub token_at : List Extension → TokenRef → Option Kind
token_at es t = slice_get (timeline_of (tokens_of es) t.sv.0) t.place

-- whether a device ends the token
abbrev pub is_by_device : Option Value → Bool
is_by_device None = false
is_by_device (Some v) = v.by_device

-- whether the point of that name ends a token whose value is by device
abbrev pub device_ends : Mission → List Extension → Option Point → Bool
device_ends m es None = false
device_ends m es (Some origin) = false
device_ends m es (Some (horizon k)) = false
device_ends m es (Some (ending v i)) = elim (slice_get (timeline_of (tokens_of es) v) i) [ None ↦ false | Some k ↦ is_by_device (value_of m k) ]

-- whether a point is observed: a device ends its token, and tells it
abbrev pub is_observed : Mission → List Extension → ℕ → Bool
is_observed m es x = device_ends m es (slice_get (points_of es) x)
