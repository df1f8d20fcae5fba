-- What a whole run owes a device: the reports of its answers, and its polls.
use Rattle.std.specs.Prelude.{◌≡◌, ◌⊎◌, ℕ, ◌-◌, pos, List, map, filter}
use Rattle.std.specs.List.{list_any}
use Rattle.hs_base.specs.declared.mission.Mission.{Mission}
use Rattle.hs_base.specs.Schedule.{numbers_from}
use Rattle.hs_machine.specs.declared.history.Entry.{Entry}
use Rattle.hs_machine.specs.Reports.{Asked, Polls, is_running, performed, reports_of}
use Rattle.hs_machine.specs.State.{now_of}
use Rattle.simulation_laws.specs.Ending.{EndsByDevice}
use Rattle.simulation_laws.specs.Reported.{reports_in}

-- the device was asked at each tick before the last one at which a script of it ran that had begun earlier
abbrev pub AskedBefore : Mission → List Entry → ℕ → Polls → Type 0
AskedBefore m h d polls =
    map (λ p. p.0) polls ≡ filter (λ tick. list_any (is_running tick) (performed m h d polls)) (map pos (numbers_from 1 (now_of h - 1)))

-- at the last tick too, but where a device ended the run at it
abbrev pub IsAsked : Mission → List Entry → ℕ → Polls → Type 0
IsAsked m h d polls = Asked m h d polls ⊎ (EndsByDevice h × AskedBefore m h d polls)

-- the history tells just the reports that its answers finish, and it was asked as its scripts ran
pub record IsAttended (m : Mission) (h : List Entry) (d : ℕ) (polls : Polls) : Type 0 where
  pub reported : reports_in h d ≡ reports_of m h d polls
  pub asked : IsAsked m h d polls
