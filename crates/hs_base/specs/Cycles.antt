-- Ways along bounds, and cycles that no schedule keeps.
use Rattle.std.specs.Prelude.{◌≡◌, ◌≢◌, ℕ, List, [], ◌∷◌, ℤ, pos, ◌+ℤ◌, ◌<ℤ◌, All, AllPairs, Contains}
use Rattle.hs_base.specs.Types.{Bound}

-- the bounds lead from p to q: each ends where the next begins
abbrev pub Leads : ℕ → List Bound → ℕ → Type 0
Leads p [] q = p ≡ q
Leads p (b ∷ bs) q = (b.from.0 ≡ p) × Leads b.to.0 bs q

-- the sum of their weights
abbrev pub total : List Bound → ℤ
total [] = pos 0
total (b ∷ bs) = b.most +ℤ total bs

-- bounds of the list that lead from a point back to it, begin at different points and sum below 0
pub record IsNegativeCycle (bounds cycle : List Bound) : Type 0 where
  pub given : All (Contains bounds) cycle
  pub closed : (p : ℕ) × Leads p cycle p
  pub distinct : AllPairs (λ a b. a.from ≢ b.from) cycle
  pub negative : total cycle <ℤ pos 0
