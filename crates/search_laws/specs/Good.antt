-- What holds of each partial plan whose parts were allowed.
use Rattle.std.specs.List.{AllByRecursion}
use Rattle.std.specs.Prelude.{◌≡◌, ℕ, List, [], ◌∷◌, Some, ◌<◌, ◌≤◌, ⊤, slice_get}
use Rattle.hs_base.specs.declared.mission.Mission.{Mission}
use Rattle.search_tree.specs.Begun.{Begun}
use Rattle.search_tree.specs.May.{HasRoom, MayDo}
use Rattle.search_tree.specs.Partial.{Partial, Row, cells}
use Rattle.search_tree.specs.Parts.{do_part}
use Rattle.search_tree.specs.Resolvers.{new_tokens}
use Rattle.search_tree.specs.Sound.{IsSmall, IsSound}
use Rattle.search_tree.specs.declared.backing.Deferral.{Deferral}
use Rattle.search_tree.specs.declared.held.Cell.{Cell}
use Rattle.search_tree.specs.declared.part.Part.{Part}

-- each part may be done where it was done
abbrev pub AreAllowed : Mission → Begun → Partial → List Part → Type 0
AreAllowed m b p [] = ⊤
AreAllowed m b p (x ∷ xs) = (MayDo m b p x × HasRoom b p x) × AreAllowed m b (do_part p x) xs

abbrev pub Differ : Cell → Cell → Type 0
Differ c d = c.held.stop ≡ d.held.stop → ⊥

-- each ends at another point than those behind it
abbrev pub IsSpread : List Cell → Type 0
IsSpread [] = ⊤
IsSpread (c ∷ cs) = AllByRecursion (Differ c) cs × IsSpread cs

-- the ends of a row's tokens are different points
pub record AreApart (p : Partial) : Type 0 where
  pub each : (v : ℕ) (r : Row) → slice_get p.rows v ≡ Some r → IsSpread (cells r)

pub record IsGood (m : Mission) (b : Begun) (p : Partial) : Type 0 where
  pub sound : IsSound m b p
  pub small : IsSmall b p
  pub few : new_tokens p ≤ 128
  pub apart : AreApart p
  pub left : AllByRecursion (λ (d : Deferral). d.stop < p.points) p.deferred
