-- Other leaders on one side of a leader, by their places and the weights of their edges.
use Rattle.std.specs.Prelude.{◌≡◌, ◌⊎◌, ℕ, ◌<◌, Bool, true, false, not, ◌&&◌, nat_eq, ℤ, neg_ℤ, ◌+ℤ◌, ◌≤ℤ◌, List, [], length, get_or, Contains}
use Rattle.std.specs.List.{list_any}
use Rattle.hs_base.specs.declared.limits.TheConstants.{LAST}
use Rattle.hs_base.specs.Schedule.{time_of}
use Rattle.hs_base.specs.Reduced.{int_eq}
use Rattle.edge_filter.specs.declared.side.Side.{Side}
use Rattle.edge_filter.specs.declared.candidates.Candidate.{Candidate}
use Rattle.edge_filter.specs.Sides.{has_sign}

-- i is another place than a, with a weight of that side
abbrev pub is_other : Side → ℕ → ℕ → ℤ → Bool
is_other side a i w = not (nat_eq i a) && has_sign side w

-- it has the weight that the row of place a has for its place, and is another one on that side
pub record IsOther (side : Side) (row : List ℤ) (a : ℕ) (b : Candidate) : Type 0 where
  pub within : b.place < length row
  pub weight : b.weight ≡ time_of row b.place
  pub on : is_other side a b.place b.weight ≡ true

-- each of the first n places that is another one on that side has a candidate
pub record HasOthers (side : Side) (row : List ℤ) (a n : ℕ) (bs : List Candidate) : Type 0 where
  pub all : (i : ℕ) → i < n → is_other side a i (time_of row i) ≡ true → (b : Candidate) × Contains bs b × (b.place ≡ i)

-- its place is one of n, and its weight within LAST of 0
pub record IsPlaced (n : ℕ) (b : Candidate) : Type 0 where
  pub within : b.place < n
  pub low : neg_ℤ LAST ≤ℤ b.weight
  pub high : b.weight ≤ℤ LAST

-- b isn't x, and stands on a shortest path by the row of its weights
abbrev pub passes_by : List ℤ → Candidate → Candidate → Bool
passes_by row x b = not (nat_eq x.place b.place) && int_eq (time_of row x.place +ℤ b.weight) x.weight

-- the same by all rows
abbrev pub passes : List (List ℤ) → Candidate → Candidate → Bool
passes rows x b = passes_by (get_or rows b.place []) x b

-- one of the candidates does
abbrev pub some_passes : List (List ℤ) → List Candidate → Candidate → Bool
some_passes rows bs x = list_any (passes rows x) bs

-- x isn't b, which doesn't pass by it
abbrev pub is_left : List ℤ → Candidate → Candidate → Bool
is_left row b x = not (nat_eq x.place b.place) && not (passes_by row x b)

-- a candidate stands at the place of x, or one passes by it
abbrev pub IsSettled : List (List ℤ) → List Candidate → Candidate → Type 0
IsSettled rows bs x = ((b : Candidate) × Contains bs b × (b.place ≡ x.place)) ⊎ (some_passes rows bs x ≡ true)

-- some of those given, by which all of them are settled
pub record AreNarrowed (rows : List (List ℤ)) (given bs : List Candidate) : Type 0 where
  pub each : (b : Candidate) → Contains bs b → Contains given b
  pub settled : (x : Candidate) → Contains given x → IsSettled rows bs x

-- b stands at i, and none of the candidates passes by it
abbrev pub is_unpassed : List (List ℤ) → List Candidate → ℕ → Candidate → Bool
is_unpassed rows bs i b = nat_eq b.place i && not (some_passes rows bs b)

-- the marks, one for each row, of the places of those of some candidates by which none of all passes
pub record AreMarked (rows : List (List ℤ)) (bs some : List Candidate) (marks : List Bool) : Type 0 where
  pub long : length marks ≡ length rows
  pub each : (i : ℕ) → i < length rows → get_or marks i false ≡ list_any (is_unpassed rows bs i) some
