-- The text of a plan.
use Rattle.std.specs.Prelude.{ℕ, ◌+◌, List, [], ◌++◌, codes}
use Rattle.std.specs.Fmt.{decimal}
use Rattle.hs_base.specs.declared.plan.Extension.{Extension}
use Rattle.hs_base.specs.declared.mission.Mission.{Mission}
use Rattle.hs_base.specs.Points.{Point, points_of}
use Rattle.hs_base.specs.Walks.{join_after}
use Rattle.hs_texts.specs.Written.{body_in}

-- an extension of a plan with the points ps
abbrev pub extension_in : Mission → List Point → Extension → List ℕ
extension_in m ps e = codes "extension " ++ decimal (e.base + 1) ++ codes "\n" ++ body_in m ps e

-- an extension of the plan es
abbrev pub extension_text : Mission → List Extension → Extension → List ℕ
extension_text m es e = extension_in m (points_of es) e

-- the text of a plan
abbrev pub plan_text : Mission → List Extension → List ℕ
plan_text m es = codes "hsts plan 1\n" ++ join_after (extension_text m) [] es ++ codes "end\n"
