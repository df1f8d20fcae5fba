-- What an index knows of a plan.
use Rattle.std.specs.Prelude.{ℕ, zero, suc, ◌+◌, List, ◌∷◌, ◌++◌, length, map}
use Rattle.hs_base.specs.declared.mission.Kind.{Kind}
use Rattle.hs_base.specs.declared.plan.Time.{Time}
use Rattle.hs_base.specs.declared.plan.TokenRef.{TokenRef}
use Rattle.hs_base.specs.declared.plan.Extension.{Extension}
use Rattle.hs_base.specs.Points.{Point, horizon, ending, place_of, points_of, tokens_of, refs_after}
use Rattle.hs_base.specs.Checked.{fixed_of}

-- the number of extensions, the points by number, the tokens and the fixed times in order
pub record Contents : Type 0 where
  pub horizons : ℕ
  pub points : List Point
  pub tokens : List Kind
  pub fixed : List Time

-- what is to know of a plan
abbrev pub contents_of : List Extension → Contents
contents_of es = record { horizons = length es; points = points_of es; tokens = tokens_of es; fixed = fixed_of es }

-- the point at which a token ends
abbrev pub end_of : TokenRef → Point
end_of t = ending t.sv.0 t.place

-- with one more extension: its horizon point, and the ends of its tokens
abbrev pub extended : Contents → Extension → Contents
extended c e = record {
  horizons = c.horizons + 1;
  points = c.points ++ horizon (c.horizons + 1) ∷ map end_of (refs_after c.tokens e.tokens);
  tokens = c.tokens ++ e.tokens;
  fixed = c.fixed ++ e.fixed;
}

-- the number of a token's start among these points: the end of the token before it, or Z
abbrev pub start_at : List Point → ℕ → ℕ → ℕ
start_at points v zero = 0
start_at points v (suc i) = place_of (ending v i) points

abbrev pub start_of : List Point → TokenRef → ℕ
start_of points t = start_at points t.sv.0 t.place
