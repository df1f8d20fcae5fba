-- The bounds of the tokens with which a search begins, as the code makes them.
use Rattle.std.specs.Prelude.{List, [], drop, flat_map, neg_ℤ, negsuc, ℕ, ℤ, ◌++◌, ◌∷◌}
use Rattle.hs_base.specs.Bounds.{apart, on_some}
use Rattle.hs_base.specs.Points.{value_of}
use Rattle.hs_base.specs.Ranges.{whole}
use Rattle.hs_base.specs.Schedule.{bound}
use Rattle.hs_base.specs.declared.mission.Mission.{Mission}
use Rattle.hs_base.specs.declared.mission.Value.{Value}
use Rattle.hs_base.specs.declared.net.Bound.{Bound}
use Rattle.search_tree.specs.declared.held.Held.{Held}
use Rattle.timeline_db.specs.Lines.{Shown}
use Rattle.timeline_db.specs.declared.token.Token.{Token}

-- all bounds of a new token by itself, where the next horizon has the point `mark`
abbrev pub own_bounds : Mission → ℕ → ℤ → Held → List Bound
own_bounds m mark since x =
    apart x.start 0 whole ++ apart x.stop 0 whole ++ on_some (value_of m x.kind) (λ (v : Value). apart x.stop x.start v.lasts) ++ bound mark x.start (negsuc 0) ∷ bound x.stop 0 (neg_ℤ since) ∷ []

-- those of the new tokens of a line
abbrev pub line_bounds : Mission → ℕ → ℤ → Shown → List Bound
line_bounds m mark since s = flat_map (λ (t : Token). own_bounds m mark since t.held) (drop s.given s.tokens)
