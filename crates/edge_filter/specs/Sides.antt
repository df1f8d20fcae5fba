-- The edges to a leader that aren't negative, and the negative ones from it.
use Rattle.std.specs.Prelude.{ℕ, Bool, not, ◌&&◌, nat_eq, ℤ, pos, int_le, int_lt, List}
use Rattle.hs_base.specs.Reduced.{Table, is_kept, dominates}
use Rattle.edge_filter.specs.declared.side.Side.{Side}
use Rattle.edge_filter.specs.declared.side.Side.TheVariants.{Incoming, Outgoing}

-- the weight of the edge between a leader and another
abbrev pub along : Side → Table → ℕ → ℕ → ℤ
along Incoming d a x = d x a
along Outgoing d a x = d a x

-- a weight of that side
abbrev pub has_sign : Side → ℤ → Bool
has_sign Incoming w = int_le (pos 0) w
has_sign Outgoing w = int_lt w (pos 0)

-- the edge is kept
abbrev pub is_kept_at : Side → Table → List ℕ → ℕ → ℕ → Bool
is_kept_at Incoming d ls a x = is_kept d ls x a
is_kept_at Outgoing d ls a x = is_kept d ls a x

-- b dominates it
abbrev pub dominates_at : Side → Table → ℕ → ℕ → ℕ → Bool
dominates_at Incoming d a x b = dominates d x a b
dominates_at Outgoing d a x b = dominates d a x b

-- x is another leader, with an edge of that side
abbrev pub is_on : Side → Table → ℕ → ℕ → Bool
is_on side d a x = not (nat_eq x a) && has_sign side (along side d a x)

-- the edge is on that side and kept
abbrev pub is_kept_on : Side → Table → List ℕ → ℕ → ℕ → Bool
is_kept_on side d ls a x = is_kept_at side d ls a x && has_sign side (along side d a x)
