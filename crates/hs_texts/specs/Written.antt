-- The parts that written texts have in common: names, points, bounds and the body of an extension.
use Rattle.std.specs.Prelude.{ℕ, ◌+◌, List, [], ◌∷◌, ◌++◌, flat_map, slice_get, Some, None, codes}
use Rattle.std.specs.Fmt.{decimal, signed_decimal}
use Rattle.hs_base.specs.declared.net.Bound.{Bound}
use Rattle.hs_base.specs.declared.plan.Extension.{Extension}
use Rattle.hs_base.specs.declared.mission.Kind.{Kind}
use Rattle.hs_base.specs.declared.mission.Mission.{Mission}
use Rattle.hs_base.specs.declared.plan.Support.{Support}
use Rattle.hs_base.specs.declared.plan.Time.{Time}
use Rattle.hs_base.specs.declared.plan.TokenRef.{TokenRef}
use Rattle.hs_base.specs.Points.{Point, origin, horizon, ending, points_of, value_of}

-- the name of a variable
abbrev pub variable_name : Mission → ℕ → List ℕ
variable_name m v = elim (slice_get m.vars v) [ Some var ↦ var.name | None ↦ [] ]

-- the name of a value
abbrev pub value_name : Mission → Kind → List ℕ
value_name m k = elim (value_of m k) [ Some value ↦ value.name | None ↦ [] ]

-- a point by its name: `Z`, `H 1` or `camera 0`
abbrev pub spelled_point : Mission → Point → List ℕ
spelled_point m origin = codes "Z"
spelled_point m (horizon k) = codes "H " ++ decimal k
spelled_point m (ending v i) = variable_name m v ++ codes " " ++ decimal i

-- a point by its number, where ps are the points of a plan
abbrev pub point_in : Mission → List Point → ℕ → List ℕ
point_in m ps p = elim (slice_get ps p) [ Some name ↦ spelled_point m name | None ↦ [] ]

-- a point of a plan by its number
abbrev pub point_text : Mission → List Extension → ℕ → List ℕ
point_text m es p = point_in m (points_of es) p

-- a token by its variable and place
abbrev pub token_text : Mission → TokenRef → List ℕ
token_text m t = variable_name m t.sv.0 ++ codes " " ++ decimal t.place

-- a bound between points of a plan: `camera 1 to camera 0 most -3`
abbrev pub bound_in : Mission → List Point → Bound → List ℕ
bound_in m ps b = point_in m ps b.from.0 ++ codes " to " ++ point_in m ps b.to.0 ++ codes " most " ++ signed_decimal b.most

abbrev pub bound_text : Mission → List Extension → Bound → List ℕ
bound_text m es b = bound_in m (points_of es) b

-- a point that was executed before
abbrev pub fix_line : Mission → List Point → Time → List ℕ
fix_line m ps t = codes "fix " ++ point_in m ps t.point.0 ++ codes " " ++ signed_decimal t.at ++ codes "\n"

-- a new token
abbrev pub token_line : Mission → Kind → List ℕ
token_line m k = codes "token " ++ variable_name m k.sv.0 ++ codes " " ++ value_name m k ++ codes "\n"

-- the token that serves a need
abbrev pub support_line : Mission → Support → List ℕ
support_line m s = codes "support " ++ token_text m s.token ++ codes " " ++ decimal s.need ++ codes " " ++ token_text m s.by ++ codes "\n"

-- the token that meets the goal of that number
abbrev pub goal_line : Mission → ℕ → TokenRef → List ℕ
goal_line m n t = codes "goal " ++ decimal n ++ codes " " ++ token_text m t ++ codes "\n"

-- the tokens that meet goals, of which the first has this number
abbrev pub goal_lines : Mission → ℕ → List TokenRef → List ℕ
goal_lines m n [] = []
goal_lines m n (t ∷ ts) = goal_line m n t ++ goal_lines m (n + 1) ts

-- the lines from `since` to `close` of an extension of a plan with the points ps
abbrev pub body_in : Mission → List Point → Extension → List ℕ
body_in m ps e =
    codes "since " ++ signed_decimal e.since ++ codes "\n"
    ++ flat_map (fix_line m ps) e.fixed
    ++ flat_map (token_line m) e.tokens
    ++ flat_map (support_line m) e.supports
    ++ goal_lines m 0 e.goals
    ++ codes "close\n"

-- the same of an extension of the plan es
abbrev pub body_text : Mission → List Extension → Extension → List ℕ
body_text m es e = body_in m (points_of es) e
