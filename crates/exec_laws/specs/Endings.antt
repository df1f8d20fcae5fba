-- Ends of last tokens.
use Rattle.std.specs.Prelude.{◌≡◌, ℕ, suc, List, length, slice_get, Some}
use Rattle.hs_base.specs.declared.plan.Extension.{Extension}
use Rattle.hs_base.specs.Points.{ending, points_of, timeline_of, tokens_of}

-- the point is the end of the last token of its timeline
pub record IsLastEnd (es : List Extension) (x : ℕ) : Type 0 where
  pub sv : ℕ
  pub place : ℕ
  pub is : slice_get (points_of es) x ≡ Some (ending sv place)
  pub last : suc place ≡ length (timeline_of (tokens_of es) sv)
