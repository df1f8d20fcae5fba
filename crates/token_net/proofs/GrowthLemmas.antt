-- The tokens and points of a plan on its way to an extension more.
use Rattle.std.proofs.Common.{◌≡◌, ◌+◌, List, [], ◌∷◌, ◌++◌, length, arith, length-append}
use Rattle.hs_base.specs.declared.mission.Kind.{Kind}
use Rattle.hs_base.specs.declared.plan.Extension.{Extension}
use Rattle.hs_base.specs.Points.{Point, horizon, count, points_of, tokens_of}
use Rattle.base_laws.proofs.PointLemmas.{end_points, length-ends}

-- the tokens and points of a plan with a horizon more and new tokens behind it
abbrev pub tokens_in : List Extension → List Kind → List Kind
tokens_in before new = tokens_of before ++ new

abbrev pub names_in : List Extension → List Kind → List Point
names_in before new = (points_of before ++ horizon (length before + 1) ∷ []) ++ end_points (tokens_of before) new

pub length-names_in : (before : List Extension) (new : List Kind) → length (names_in before new) ≡ count before + 1 + length new
length-names_in before new = omega (arith, length-append (points_of before ++ horizon (length before + 1) ∷ []) (end_points (tokens_of before) new), length-append (points_of before) (horizon (length before + 1) ∷ []), length-ends (tokens_of before) new)
