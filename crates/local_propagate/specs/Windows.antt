-- Windows of the groups of a network, some of which are set at a time.
use Rattle.std.specs.Prelude.{◌≡◌, ◌≢◌, ℕ, ◌<◌, Bool, ◌&&◌, nat_eq, ℤ, pos, int_lt, List, length, map, get_or, Contains, Option, Some, None}
use Rattle.std.specs.List.{count_by}
use Rattle.std.specs.Option.{is_none}
use Rattle.hs_base.specs.declared.net.Bound.{Bound}
use Rattle.hs_base.specs.declared.net.Net.{Net}
use Rattle.hs_base.specs.Fits.{Times}
use Rattle.hs_base.specs.Dispatch.{lookup_time}
use Rattle.hs_base.specs.Windows.{IsLow, IsHigh}
use Rattle.local_propagate.specs.declared.windows.Windows.{Windows}
use Rattle.local_propagate.specs.declared.windows.TheConstants.{NEVER}
use Rattle.local_propagate.specs.Joined.{IsJoined, leaders_of, leader_at, after_of, before_of}

-- the time of each group, by its number, where it is set
abbrev pub times_of : Windows → List (Option ℤ)
times_of w = w.times.items

abbrev pub time_of : Windows → ℕ → Option ℤ
time_of w i = get_or w.times.items i None

-- the times of the set leaders
abbrev pub set_times : Net → Windows → Times
set_times net w = lookup_time net.groups w.times.items

-- a negative edge from leader a to one that isn't set
abbrev pub waits_at : Times → ℕ → Bound → Bool
waits_at time a e = nat_eq e.from.0 a && (int_lt e.most (pos 0) && is_none (time e.to.0))

-- a group's time where it is set, and else the stored one
abbrev pub or_stored : Option ℤ → ℤ → ℤ
or_stored None v = v
or_stored (Some t) v = t

-- a group's window
abbrev pub low_of : Windows → ℕ → ℤ
low_of w i = or_stored (time_of w i) (get_or w.low.items i (pos 0))

abbrev pub high_of : Windows → ℕ → ℤ
high_of w i = or_stored (time_of w i) (get_or w.high i (pos 0))

-- the windows are those of the network's groups, with these set times
pub record AreWindowsOf (net : Net) (w : Windows) : Type 0 where
  pub joined : IsJoined net
  pub groups : length w.times.items ≡ length net.groups
  pub after : w.after ≡ map (after_of (leaders_of net.groups) net.edges) (leaders_of net.groups)
  pub before : w.before ≡ map (before_of (leaders_of net.groups) net.edges) (leaders_of net.groups)
  pub low : (i : ℕ) → i < length net.groups → IsLow net.edges (set_times net w) (leader_at net i) (get_or w.low.items i (pos 0))
  pub high : (i : ℕ) → i < length net.groups → time_of w i ≡ None → IsHigh net.edges (set_times net w) (leader_at net i) (get_or w.high i (pos 0))
  pub never : (i : ℕ) (t : ℤ) → i < length net.groups → time_of w i ≡ Some t → get_or w.high i (pos 0) ≡ NEVER
  pub waits : (i : ℕ) → i < length net.groups → get_or w.waits.items i 0 ≡ count_by (waits_at (set_times net w) (leader_at net i)) net.edges

-- two different groups with no edge between them
pub record AreApart (net : Net) (i j : ℕ) : Type 0 where
  pub different : i ≢ j
  pub forth : (e : Bound) → Contains net.edges e → e.from.0 ≡ leader_at net i → e.to.0 ≢ leader_at net j
  pub back : (e : Bound) → Contains net.edges e → e.from.0 ≡ leader_at net j → e.to.0 ≢ leader_at net i
