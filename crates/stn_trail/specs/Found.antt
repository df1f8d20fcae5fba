-- What a look at bounds found.
use Rattle.std.specs.Prelude.{List, [], ℤ, ⊤}
use Rattle.hs_base.specs.declared.net.Bound.{Bound}
use Rattle.stn_trail.specs.declared.raised.Raised.{Raised}
use Rattle.stn_trail.specs.declared.spread.Found.{Found}
use Rattle.stn_trail.specs.declared.spread.Found.TheVariants.{Kept, Back, Lost}
use Rattle.stn_trail.specs.Rows.{IsIn}
use Rattle.stn_trail.specs.Covered.{AreCovered}

-- at Kept each bound of the rows is kept, or its end waits; the bound of Back is one of the rows
abbrev pub Finds : List (List Bound) → List ℤ → List Raised → Found → Type 0
Finds rows times waiting Kept = AreCovered rows times waiting []
Finds rows times waiting (Back b) = IsIn rows b
Finds rows times waiting Lost = ⊤
