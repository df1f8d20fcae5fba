-- What a Dispatch keeps at hand beside its state.
use Rattle.std.specs.Prelude.{◌≡◌, ℕ, ◌<◌, ℤ, pos, ◌+ℤ◌, ◌≤ℤ◌, List, length, map, get_or, set, Contains, Option, Some, None}
use Rattle.hs_base.specs.declared.ids.PointId.{PointId}
use Rattle.hs_base.specs.declared.limits.TheConstants.{LAST}
use Rattle.hs_base.specs.declared.net.Member.{Member}
use Rattle.hs_base.specs.declared.net.Group.{Group}
use Rattle.hs_base.specs.declared.net.Net.{Net}
use Rattle.hs_base.specs.Dispatch.{stands, time_by, group_time}
use Rattle.local_propagate.specs.Windows.{AreWindowsOf, times_of, time_of}
use Rattle.local_propagate.specs.declared.windows.Windows.{Windows}
use Rattle.local_propagate.specs.declared.windows.TheConstants.{NEVER}
use Rattle.dispatcher.specs.State.{times_in}
use Rattle.dispatcher.specs.Places.{member, place_at}
use Rattle.dispatcher.specs.declared.places.Place.{Place}

-- the numbers of points
abbrev pub numbers_of : List PointId → List ℕ
numbers_of ps = map (λ p. p.0) ps

-- an executed point of a group, for each that is set
pub record AreKnown (net : Net) (times : List (Option ℤ)) (known : List ℕ) : Type 0 where
  pub groups : length known ≡ length net.groups
  pub each : (i : ℕ) (g : Group) (t : ℤ) → i < length net.groups → group_time (times_in times) (get_or net.groups i g) ≡ Some t
      → (o : ℤ) × Contains (stands (get_or net.groups i g)) (member (get_or known i 0) o) × (times_in times (get_or known i 0) ≡ Some (t +ℤ o))

-- until when a point can wait, where it is open and its group is set
abbrev pub wait : Option ℤ → Option ℤ → ℤ → ℤ
wait (Some u) t o = NEVER
wait None None o = NEVER
wait None (Some t) o = t +ℤ o

-- so it is with each of c points
pub record AreWaits (windows : Windows) (places : List Place) (times : List (Option ℤ)) (until : List ℤ) : Type 0 where
  pub points : length until ≡ length times
  pub each : (x : ℕ) (d : ℤ) → x < length times → get_or until x d ≡ wait (times_in times x) (time_of windows (place_at places x).group) (place_at places x).offset

-- windows with the groups' times
pub record AreSetBy (net : Net) (times : List (Option ℤ)) (windows : Windows) : Type 0 where
  pub are : AreWindowsOf net windows
  pub by : times_of windows ≡ map (group_time (times_in times)) net.groups

-- a member of a group that is set at t can wait until its own time
abbrev pub waited : ℤ → List ℤ → Member → List ℤ
waited t until m = set until m.point.0 (t +ℤ m.offset)

-- times are within LAST
abbrev pub AreTimes : List (Option ℤ) → Type 0
AreTimes times = (x : ℕ) (t : ℤ) → times_in times x ≡ Some t → (pos 0 ≤ℤ t) × (t ≤ℤ LAST)

-- an executed one of some points gives their leader its time
pub record IsTold (times : List (Option ℤ)) (ms : List Member) (t : ℤ) (q : ℕ) : Type 0 where
  pub time : time_by (times_in times) ms ≡ Some t
  pub member : Member
  pub among : Contains ms member
  pub is : member.point.0 ≡ q
  pub executed : times_in times q ≡ Some (t +ℤ member.offset)

-- q is an executed point of the group of that number, where it is set
abbrev pub Knows : Net → List (Option ℤ) → ℕ → ℕ → Type 0
Knows net times i q = (g : Group) (t : ℤ) → group_time (times_in times) (get_or net.groups i g) ≡ Some t → (o : ℤ) × Contains (stands (get_or net.groups i g)) (member q o) × (times_in times q ≡ Some (t +ℤ o))

-- a time or an offset within LAST
pub record IsWithin (t : ℤ) : Type 0 where
  pub low : pos 0 ≤ℤ t
  pub high : t ≤ℤ LAST
