-- What executed times allow, by the tight weights alone.
use Rattle.std.specs.Prelude.{◌≡◌, ℕ, ◌<◌, ℤ, ◌-ℤ◌, ◌≤ℤ◌, Some, unwrap_or}
use Rattle.hs_base.specs.Reduced.{Table}
use Rattle.hs_base.specs.Fits.{Times}

-- a point's time, or now
abbrev pub floor : Times → ℤ → ℕ → ℤ
floor at n x = unwrap_or (at x) n

-- no executed point is too early for another point's time, or for now
pub record AllowsAll (c : ℕ) (d : Table) (at : Times) (n : ℤ) : Type 0 where
  pub each : (p q : ℕ) (u : ℤ) → p < c → q < c → at p ≡ Some u → (floor at n q -ℤ u) ≤ℤ d p q
