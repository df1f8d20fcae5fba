-- The text of the bounds that force another.
use Rattle.std.specs.Prelude.{ℕ, List, ◌++◌, flat_map, codes}
use Rattle.hs_base.specs.declared.net.Bound.{Bound}
use Rattle.hs_base.specs.declared.plan.Extension.{Extension}
use Rattle.hs_base.specs.declared.mission.Mission.{Mission}
use Rattle.hs_base.specs.Points.{Point, points_of}
use Rattle.hs_texts.specs.Written.{bound_in}

-- a line that tells a bound, where ps are the points of a plan
abbrev pub why_line : Mission → List Point → Bound → List ℕ
why_line m ps b = codes "why " ++ bound_in m ps b ++ codes "\n"

-- a line for each bound of a chain
abbrev pub why_text : Mission → List Extension → List Bound → List ℕ
why_text m es chain = flat_map (why_line m (points_of es)) chain
