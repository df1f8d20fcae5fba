-- Edges of a group as its list of neighbours shows them.
use Rattle.std.specs.Prelude.{◌≡◌, ℕ, ◌<◌, ℤ, pos, ◌+ℤ◌, ◌-ℤ◌, ◌≤ℤ◌, ◌<ℤ◌, length, get_or, Contains, Some}
use Rattle.hs_base.specs.declared.net.Bound.{Bound}
use Rattle.hs_base.specs.declared.net.Member.{Member}
use Rattle.hs_base.specs.declared.net.Group.{Group}
use Rattle.hs_base.specs.declared.net.Net.{Net}
use Rattle.hs_base.specs.Dispatch.{stands, group_time}
use Rattle.local_propagate.specs.declared.neighbours.Neighbour.{Neighbour}
use Rattle.local_propagate.specs.Joined.{leader_at}
use Rattle.dispatcher.specs.State.{State, time_in}

-- an edge of group i leads to the neighbour
pub record LeadsTo (net : Net) (i : ℕ) (n : Neighbour) : Type 0 where
  pub edge : Bound
  pub among : Contains net.edges edge
  pub from : edge.from.0 ≡ leader_at net i
  pub to : edge.to.0 ≡ leader_at net n.group
  pub most : edge.most ≡ n.most
  pub within : n.group < length net.groups

-- the neighbour lets the group stand at now: its edge isn't negative, or it is set early enough
pub record LetsFire (s : State) (n : Neighbour) : Type 0 where
  pub lets : n.most <ℤ pos 0 → (g : Group) → (t : ℤ) × (group_time (time_in s) (get_or s.net.groups n.group g) ≡ Some t) × ((t -ℤ n.most) ≤ℤ s.tick)

-- the group of that number is set at t
abbrev pub IsSetAt : State → ℕ → ℤ → Type 0
IsSetAt s i t = (g : Group) → group_time (time_in s) (get_or s.net.groups i g) ≡ Some t

-- an executed point of the group of that number, which is set at t
pub record IsKnownIn (s : State) (i : ℕ) (t : ℤ) (m : Member) : Type 0 where
  pub stands : (g : Group) → Contains (stands (get_or s.net.groups i g)) m
  pub executed : time_in s m.point.0 ≡ Some (t +ℤ m.offset)
