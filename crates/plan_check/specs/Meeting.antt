-- Which goals are met, by the tokens.
use Rattle.std.specs.Prelude.{◌≡◌, List, slice_get, Option, Some, None}
use Rattle.hs_base.specs.declared.mission.Kind.{Kind}
use Rattle.hs_base.specs.declared.mission.Goal.{Goal}
use Rattle.hs_base.specs.declared.plan.TokenRef.{TokenRef}
use Rattle.hs_base.specs.Points.{timeline_of}

-- the entry is there, and is a token of the goal's kind
abbrev pub IsMetIn : List Kind → Goal → Option TokenRef → Type 0
IsMetIn tokens g None = ⊥
IsMetIn tokens g (Some t) = slice_get (timeline_of tokens t.sv.0) t.place ≡ Some g.kind
