-- What one neighbour of a group that is set, at a time, makes of the windows.
use Rattle.std.specs.Prelude.{ℕ, Bool, ◌-◌, cond, ℤ, pos, ◌+ℤ◌, ◌-ℤ◌, int_lt, List, get_or, Option, None}
use Rattle.std.specs.List.{slice_set}
use Rattle.std.specs.Int.{int_max, int_min}
use Rattle.std.specs.Option.{is_none}
use Rattle.local_propagate.specs.declared.neighbours.Neighbour.{Neighbour}

-- the earliest times, where an edge of the neighbour leads to the group
abbrev pub raised : ℤ → List ℤ → Neighbour → List ℤ
raised at low n = slice_set low n.group (int_max (get_or low n.group (pos 0)) (at -ℤ n.most))

-- the latest times, where an edge leads to the neighbour; one that is set has none
abbrev pub lowered : List (Option ℤ) → ℤ → List ℤ → Neighbour → List ℤ
lowered times at high n = cond (is_none (get_or times n.group None)) (slice_set high n.group (int_min (get_or high n.group (pos 0)) (at +ℤ n.most))) high

-- how many negative edges to unset groups there are, where one of the neighbour's leads to the group
abbrev pub released : List ℕ → Neighbour → List ℕ
released waits n = cond (int_lt n.most (pos 0)) (slice_set waits n.group (get_or waits n.group 0 - 1)) waits

-- the edge is negative
abbrev pub is_negative : Neighbour → Bool
is_negative n = int_lt n.most (pos 0)
