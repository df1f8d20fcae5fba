-- Laws of dispatching by a reduced network: what its kept edges decide, in any state that is reached.
use Rattle.std.specs.Prelude.{◌≡◌, ◌≢◌, ◌⊎◌, ◌↔◌, ℕ, ◌<◌, Bool, ℤ, pos, ◌+ℤ◌, ◌-ℤ◌, ◌≤ℤ◌, Some, None, Contains}
use Rattle.hs_base.specs.declared.net.Bound.{Bound}
use Rattle.hs_base.specs.declared.net.Member.{Member}
use Rattle.hs_base.specs.declared.net.Group.{Group}
use Rattle.hs_base.specs.declared.net.Net.{Net}
use Rattle.hs_base.specs.Schedule.{Schedule, Tight}
use Rattle.hs_base.specs.Network.{spread}
use Rattle.hs_base.specs.Reduced.{IsReducedOf}
use Rattle.hs_base.specs.Fits.{Times, Fits, MayBeNow, MayTick, IsForced, IsOneTime, Forbids, IsDue, LateBound, put}
use Rattle.hs_base.specs.Dispatch.{stands, group_time, leader_times, IsEnabled, IsFree, Marked, MarkedFrom, IsReached}
use Rattle.hs_base.specs.Windows.{IsLow, AreSet, AreHigh, AreLater}

-- the law holds of every reduced network of c points
abbrev pub OfNetworks : (ℕ → Net → Type 0) → Type 0
OfNetworks Law = (c : ℕ) (net : Net) → IsReducedOf c (spread net) net → Law c net

-- the law holds in every state (executed times, now) that is reached with a reduced network of c points
abbrev pub InStates : (ℕ → Net → Times → ℤ → Type 0) → Type 0
InStates Law = (c : ℕ) (net : Net) (at : Times) (n : ℤ) → IsReducedOf c (spread net) net → IsReached c net at n → Law c net at n

-- an unset leader may stand at now exactly where its kept negative edges let it go
abbrev pub EnabledMayFire : ℕ → Net → Times → ℤ → Type 0
EnabledMayFire c net at n = (g : Group) → Contains net.groups g → group_time at g ≡ None → MayBeNow c (spread net) at n g.leader.0 ↔ IsEnabled net.edges (leader_times net.groups at) n g.leader.0

-- the time may go on exactly where no kept edge from a set leader holds anything at now
abbrev pub FreeMayTick : ℕ → Net → Times → ℤ → Type 0
FreeMayTick c net at n = MayTick c (spread net) at n ↔ IsFree net at n

-- the forced unset leaders are the marked ones
abbrev pub MarkedAreForced : ℕ → Net → Times → ℤ → Type 0
MarkedAreForced c net at n = (g : Group) → Contains net.groups g → group_time at g ≡ None → IsForced c (spread net) at n g.leader.0 ↔ Marked net.edges (leader_times net.groups at) n g.leader.0

-- a point of an unset group is forced, or may stand at now, exactly where its offset is 0 and its leader is or may
abbrev pub MembersFollow : ℕ → Net → Times → ℤ → Type 0
MembersFollow c net at n = (g : Group) (m : Member) → Contains net.groups g → Contains (stands g) m → group_time at g ≡ None
    → (IsForced c (spread net) at n m.point.0 ↔ ((m.offset ≡ pos 0) × IsForced c (spread net) at n g.leader.0))
    × (MayBeNow c (spread net) at n m.point.0 ↔ ((m.offset ≡ pos 0) × MayBeNow c (spread net) at n g.leader.0))

-- a point of a set group has one time in all fitting schedules
abbrev pub SetHasOneTime : ℕ → Net → Times → ℤ → Type 0
SetHasOneTime c net at n = (g : Group) (m : Member) (t : ℤ) → Contains net.groups g → Contains (stands g) m → group_time at g ≡ Some t → (s : Schedule) → Fits c (spread net) at n s → s m.point.0 ≡ t +ℤ m.offset

-- a point of a set group is forced exactly where that time is now
abbrev pub SetIsForced : ℕ → Net → Times → ℤ → Type 0
SetIsForced c net at n = (g : Group) (m : Member) (t : ℤ) → Contains net.groups g → Contains (stands g) m → group_time at g ≡ Some t → IsForced c (spread net) at n m.point.0 ↔ (t +ℤ m.offset ≡ n)

-- each point stands in a group
abbrev pub EachStands : ℕ → Net → Type 0
EachStands c net = (x : ℕ) → x < c → (g : Group) × (m : Member) × Contains net.groups g × Contains (stands g) m × (m.point.0 ≡ x)

-- two points have one time in every schedule exactly where they stand in one group at one offset
abbrev pub TiedAreTogether : ℕ → Net → Type 0
TiedAreTogether c net = (g h : Group) (m l : Member) → Contains net.groups g → Contains net.groups h → Contains (stands g) m → Contains (stands h) l → IsOneTime (spread net) m.point.0 l.point.0 ↔ ((g.leader.0 ≡ h.leader.0) × (m.offset ≡ l.offset))

-- the tight weight between two points of a group
abbrev pub WeightInside : ℕ → Net → Type 0
WeightInside c net = (g : Group) (m l : Member) → Contains net.groups g → Contains (stands g) m → Contains (stands g) l → Tight (spread net) m.point.0 l.point.0 (l.offset -ℤ m.offset)

-- the tight weight between points of two groups that a kept edge joins
abbrev pub WeightAlong : ℕ → Net → Type 0
WeightAlong c net = (e : Bound) (g h : Group) (m l : Member) → Contains net.edges e → Contains net.groups g → Contains net.groups h → g.leader.0 ≡ e.from.0 → h.leader.0 ≡ e.to.0 → Contains (stands g) m → Contains (stands h) l
    → Tight (spread net) m.point.0 l.point.0 ((e.most +ℤ l.offset) -ℤ m.offset)

-- the time may go on, or some point is forced
abbrev pub GoesOn : ℕ → Net → Times → ℤ → Type 0
GoesOn c net at n = MayTick c (spread net) at n ⊎ ((x : ℕ) × (x < c) × (at x ≡ None) × IsForced c (spread net) at n x)

-- a leader's earliest time decides together with which of its kept negative edges lead to set leaders
abbrev pub EarliestEnables : ℕ → Net → Times → ℤ → Type 0
EarliestEnables c net at n = (a : ℕ) (v : ℤ) → IsLow net.edges (leader_times net.groups at) a v → IsEnabled net.edges (leader_times net.groups at) n a ↔ (AreSet net.edges (leader_times net.groups at) a × (v ≤ℤ n))

-- the latest times of the unset leaders decide whether the time may go on
abbrev pub LatestLetsTick : ℕ → Net → Times → ℤ → Type 0
LatestLetsTick c net at n = (high : ℕ → ℤ) → AreHigh net at high → MayTick c (spread net) at n ↔ AreLater net at high n

-- a point may be executed now, or a tight bound of it forbids that
abbrev pub MayOrForbids : ℕ → Net → Times → ℤ → Type 0
MayOrForbids c net at n = (x : ℕ) → x < c → at x ≡ None → MayBeNow c (spread net) at n x ⊎ Forbids c (spread net) at n x

-- a bound that forbids a point leaves it no schedule
abbrev pub ForbiddenMayNot : ℕ → Net → Times → ℤ → Type 0
ForbiddenMayNot c net at n = (x : ℕ) → x < c → Forbids c (spread net) at n x → MayBeNow c (spread net) at n x → ⊥

-- a forced point is held at now by a tight bound from an executed one
abbrev pub ForcedIsHeld : ℕ → Net → Times → ℤ → Type 0
ForcedIsHeld c net at n = (x : ℕ) → x < c → at x ≡ None → IsForced c (spread net) at n x → (p : ℕ) × (u : ℤ) × (w : ℤ) × (at p ≡ Some u) × Tight (spread net) p x w × ((u +ℤ w) ≤ℤ n)

-- executing a point sets its group's leader, less its offset
abbrev pub FiringSetsOwn : ℕ → Net → Times → ℤ → Type 0
FiringSetsOwn c net at n = (g : Group) (m : Member) → Contains net.groups g → Contains (stands g) m → at m.point.0 ≡ None → MayBeNow c (spread net) at n m.point.0 → group_time (put at m.point.0 n) g ≡ Some (n -ℤ m.offset)

-- executing a point leaves every other group as it was
abbrev pub FiringLeavesOthers : ℕ → Net → Times → ℤ → Type 0
FiringLeavesOthers c net at n = (g : Group) (m : Member) → Contains net.groups g → Contains (stands g) m → at m.point.0 ≡ None → MayBeNow c (spread net) at n m.point.0 → (h : Group) → Contains net.groups h → h.leader.0 ≢ g.leader.0 → group_time (put at m.point.0 n) h ≡ group_time at h

-- a tick may be taken, or a point is due, or a tight bound to an observed point would be broken
abbrev pub TickIsAnswered : ℕ → Net → Times → ℤ → Type 0
TickIsAnswered c net at n = (observed : ℕ → Bool) → MayTick c (spread net) at n ⊎ (((x : ℕ) × IsDue c (spread net) at n observed x) ⊎ LateBound c (spread net) at n observed)

-- a mark tells the tight bound that holds the marked leader, from an executed point of the group that it comes from
abbrev pub MarksTellBounds : ℕ → Net → Times → ℤ → Type 0
MarksTellBounds c net at n = (q u : ℕ) (g h : Group) (m l : Member) (v : ℤ) → MarkedFrom net.edges (leader_times net.groups at) n q u → Contains net.groups g → Contains net.groups h → g.leader.0 ≡ q → h.leader.0 ≡ u
    → Contains (stands g) m → Contains (stands h) l → at m.point.0 ≡ Some v → l.offset ≡ pos 0 → group_time at h ≡ None → Tight (spread net) m.point.0 l.point.0 (n -ℤ v)
