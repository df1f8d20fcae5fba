-- Networks as the windows see them: groups by number, and the neighbours of each.
use Rattle.std.specs.Prelude.{◌≡◌, ◌≢◌, ℕ, suc, ◌<◌, cond, nat_eq, neg_ℤ, ◌≤ℤ◌, List, [], ◌∷◌, length, map, filter, get_or, Contains}
use Rattle.hs_base.specs.declared.limits.TheConstants.{LAST}
use Rattle.hs_base.specs.declared.net.Bound.{Bound}
use Rattle.hs_base.specs.declared.net.Group.{Group}
use Rattle.hs_base.specs.declared.net.Net.{Net}
use Rattle.local_propagate.specs.declared.neighbours.Neighbour.{Neighbour}

-- the leaders, by the groups' numbers
abbrev pub leaders_of : List Group → List ℕ
leaders_of gs = map (λ g. g.leader.0) gs

abbrev pub leader_at : Net → ℕ → ℕ
leader_at net i = get_or (leaders_of net.groups) i 0

-- the number of a leader's group
abbrev pub place_of : List ℕ → ℕ → ℕ
place_of [] a = 0
place_of (l ∷ ls) a = cond (nat_eq l a) 0 (suc (place_of ls a))

-- an edge between two groups, whose weight is within LAST
pub record Joins (leaders : List ℕ) (e : Bound) : Type 0 where
  pub from : Contains leaders e.from.0
  pub to : Contains leaders e.to.0
  pub apart : e.from.0 ≢ e.to.0
  pub low : neg_ℤ LAST ≤ℤ e.most
  pub high : e.most ≤ℤ LAST

-- no two groups have one leader
pub record AreDifferent (leaders : List ℕ) : Type 0 where
  pub each : (i j : ℕ) → i < length leaders → j < length leaders → get_or leaders i 0 ≡ get_or leaders j 0 → i ≡ j

-- the groups have different leaders, and every edge joins two of them
pub record IsJoined (net : Net) : Type 0 where
  pub leaders : AreDifferent (leaders_of net.groups)
  pub edges : (e : Bound) → Contains net.edges e → Joins (leaders_of net.groups) e

-- the groups that the edges from leader a lead to
abbrev pub after_of : List ℕ → List Bound → ℕ → List Neighbour
after_of leaders edges a = map (λ e. record { group = place_of leaders e.to.0; most = e.most }) (filter (λ e. nat_eq e.from.0 a) edges)

-- the groups that the edges to leader a come from
abbrev pub before_of : List ℕ → List Bound → ℕ → List Neighbour
before_of leaders edges a = map (λ e. record { group = place_of leaders e.from.0; most = e.most }) (filter (λ e. nat_eq e.to.0 a) edges)

-- of each leader, by its number, the number of its group
pub record ArePlaces (leaders places : List ℕ) : Type 0 where
  pub within : (a : ℕ) → Contains leaders a → a < length places
  pub each : (a : ℕ) → Contains leaders a → get_or places a 0 ≡ place_of leaders a

-- a neighbour is one of so many groups, and its edge's weight is within LAST
pub record IsNear (groups : ℕ) (n : Neighbour) : Type 0 where
  pub within : n.group < groups
  pub low : neg_ℤ LAST ≤ℤ n.most
  pub high : n.most ≤ℤ LAST
