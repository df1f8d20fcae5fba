-- Ranges of whole ticks.
use Rattle.std.specs.Prelude.{ℤ, pos, ◌≤ℤ◌}
use Rattle.hs_base.specs.Types.{LAST, Range}

abbrev pub range : ℤ → ℤ → Range
range l u = record { low = l; high = u }

-- all times that there are
abbrev pub whole : Range
whole = range (pos 0) LAST

-- z is in the range, its limits among it
abbrev pub InRange : Range → ℤ → Type 0
InRange r z = (r.low ≤ℤ z) × (z ≤ℤ r.high)

-- the limits are times, the lower one first, and the lower one is at least that
abbrev pub IsRange : ℤ → Range → Type 0
IsRange least r = (least ≤ℤ r.low) × (r.low ≤ℤ r.high) × (r.high ≤ℤ LAST)
