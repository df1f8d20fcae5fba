-- Marks of leaders, by their point's number, each with the set leader that it comes from.
use Rattle.std.specs.Prelude.{◌≡◌, ℕ, ◌<◌, cond, ℤ, pos, ◌+ℤ◌, ◌-ℤ◌, ◌≤ℤ◌, neg_ℤ, true, List, length, get_or, Contains, Option, Some, None}
use Rattle.std.specs.Option.{is_some}
use Rattle.hs_base.specs.declared.ids.PointId.{PointId}
use Rattle.hs_base.specs.declared.limits.TheConstants.{LAST}
use Rattle.hs_base.specs.declared.net.Bound.{Bound}
use Rattle.hs_base.specs.Reduced.{int_eq}
use Rattle.hs_base.specs.Network.{spread}
use Rattle.hs_base.specs.Schedule.{Tight}
use Rattle.hs_base.specs.Fits.{Times, IsForced}
use Rattle.hs_base.specs.Dispatch.{Marked, MarkedFrom, leader_times}
use Rattle.local_propagate.specs.Windows.{time_of, times_of}
use Rattle.local_propagate.specs.declared.windows.Windows.{Windows}
use Rattle.dispatcher.specs.State.{State, points, time_in}
use Rattle.dispatcher.specs.Places.{place_at}
use Rattle.dispatcher.specs.Index.{IsWithin}
use Rattle.dispatcher.specs.declared.places.Place.{Place}

-- the time of a leader by its number
abbrev pub leader_time : Windows → List Place → Times
leader_time w places x = time_of w (place_at places x).group

-- the set leader from which an edge holds its second end at n: its first end's, or that of its mark
abbrev pub held_by : Option ℤ → Option PointId → PointId → ℤ → ℤ → Option PointId
held_by None mark from w n = cond (int_eq w (pos 0)) mark None
held_by (Some t) mark from w n = cond (int_eq (t +ℤ w) n) (Some from) None

abbrev pub holder_at : Option ℤ → Option ℤ → Option PointId → PointId → ℤ → ℤ → Option PointId
holder_at (Some u) from_time mark from w n = None
holder_at None from_time mark from w n = held_by from_time mark from w n

abbrev pub holder : Times → ℤ → List (Option PointId) → Bound → Option PointId
holder time n marks e = holder_at (time e.to.0) (time e.from.0) (get_or marks e.from.0 None) e.from e.most n

-- only what is forced is marked
pub record AreSound (edges : List Bound) (time : Times) (n : ℤ) (marks : List (Option PointId)) : Type 0 where
  pub each : (x : ℕ) (q : PointId) → get_or marks x None ≡ Some q → MarkedFrom edges time n q.0 x

-- what an edge holds is marked
abbrev pub IsMet : Times → ℤ → List (Option PointId) → Bound → Type 0
IsMet time n marks e = is_some (holder time n marks e) ≡ true → is_some (get_or marks e.to.0 None) ≡ true

-- all that can be marked is marked, and nothing else
pub record AreMarked (edges : List Bound) (time : Times) (n : ℤ) (marks : List (Option PointId)) : Type 0 where
  pub sound : AreSound edges time n marks
  pub all : (e : Bound) → Contains edges e → IsMet time n marks e

-- an edge between two of c points, with a weight within LAST
pub record IsEdge (c : ℕ) (e : Bound) : Type 0 where
  pub from : e.from.0 < c
  pub to : e.to.0 < c
  pub low : neg_ℤ LAST ≤ℤ e.most
  pub high : e.most ≤ℤ LAST

-- the group of each of c points is one of the windows', and set times are within LAST
pub record AreTimed (c : ℕ) (w : Windows) (places : List Place) : Type 0 where
  pub size : length places ≡ c
  pub groups : (x : ℕ) → x < c → (place_at places x).group < length (times_of w)
  pub times : (x : ℕ) (t : ℤ) → leader_time w places x ≡ Some t → IsWithin t

-- the forced leaders of a state, each with the set leader that it comes from
pub record AreMarksOf (s : State) (marks : List (Option PointId)) : Type 0 where
  pub points : length marks ≡ points s
  pub sound : AreSound s.net.edges (leader_times s.net.groups (time_in s)) s.tick marks
  pub all : (u : ℕ) → Marked s.net.edges (leader_times s.net.groups (time_in s)) s.tick u → is_some (get_or marks u None) ≡ true

-- every fitting schedule gives the point now
abbrev pub Forced : State → ℕ → Type 0
Forced s x = IsForced (points s) (spread s.net) (time_in s) s.tick x

-- a tight bound from the executed point q holds x at now
pub record IsHeldBy (s : State) (x q : ℕ) : Type 0 where
  pub at : ℤ
  pub executed : time_in s q ≡ Some at
  pub tight : Tight (spread s.net) q x (s.tick -ℤ at)
