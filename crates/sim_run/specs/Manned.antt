-- How devices and their posts stand at a moment of a run.
use Rattle.std.specs.Prelude.{◌≡◌, ℕ, ◌<◌, ◌≤◌, Bool, true, false, List, slice_get, Option, Some, None}
use Rattle.hs_base.specs.declared.ids.PointId.{PointId}
use Rattle.hs_base.specs.declared.ids.WordId.{WordId}
use Rattle.hs_base.specs.declared.mission.Mission.{Mission}
use Rattle.hs_machine.specs.declared.history.Entry.{Entry}
use Rattle.hs_machine.specs.Reports.{Polls, awaited}
use Rattle.hs_machine.specs.Views.{line_of}
use Rattle.device_script.specs.Runs.{IsStage, Stage}
use Rattle.simulation_laws.specs.Attended.{IsAttended}
use Rattle.simulation_laws.specs.Standing.{HasJustBegun, Standing, Stands, resting, running}
use Rattle.sim_run.specs.Told.{HasTold, Known}
use Rattle.sim_run.specs.declared.post.Post.{Post}

-- a device runs no script
abbrev pub rests : Standing → Type 0
rests st = st ≡ resting

-- it runs none, or where a device reported at this tick, it may have just begun one
abbrev pub may_begin : Bool → ℕ → Standing → Type 0
may_begin false k st = rests st
may_begin true k st = HasJustBegun k st

-- the stage of a script that awaits these words
pub record Awaits (stage : Stage) (left : List WordId) : Type 0 where
  pub stage_is : IsStage stage
  pub awaits : awaited stage.left ≡ left

-- the post runs the script that the device runs, up to that end; or it runs none, and the device idles
abbrev pub IsRunAt : (Standing → Type 0) → PointId → Option Stage → Standing → Type 0
IsRunAt idles end None st = idles st
IsRunAt idles end (Some stage) resting = ⊥
IsRunAt idles end (Some stage) (running s left) = Awaits stage left × (s.point ≡ end.0)

-- device d was asked by tick k, has told its answers since it was known so, and is run by its post
pub record IsManned (idles : Standing → Type 0) (m : Mission) (h : List Entry) (d k : ℕ) (before now : Known) (post : Post) : Type 0 where
  pub polls : Polls
  pub told : HasTold before now polls
  pub standing : Standing
  pub stands : Stands m h d polls k standing
  pub run : IsRunAt idles post.end post.script standing

-- so are the devices from number a to b
abbrev pub AreManned : ℕ → ℕ → (Standing → Type 0) → Mission → List Entry → ℕ → List Known → List Known → List Post → Type 0
AreManned a b idles m h k before now posts =
    (d : ℕ) (was is : Known) (post : Post) → a ≤ d → d < b → slice_get before d ≡ Some was → slice_get now d ≡ Some is → slice_get posts d ≡ Some post → IsManned idles m h d k was is post

-- the post ends with the current token of its timeline
abbrev pub IsWatched : Mission → List Entry → ℕ → Post → Type 0
IsWatched m h d post = post.end.0 ≡ (line_of m h d).end

-- the posts from number a to b do
abbrev pub AreWatched : ℕ → ℕ → Mission → List Entry → List Post → Type 0
AreWatched a b m h posts = (d : ℕ) (post : Post) → a ≤ d → d < b → slice_get posts d ≡ Some post → IsWatched m h d post

-- device d is attended by what it told since
pub record IsServed (m : Mission) (h : List Entry) (d : ℕ) (before now : Known) : Type 0 where
  pub polls : Polls
  pub told : HasTold before now polls
  pub attended : IsAttended m h d polls

-- so are all devices of a mission
abbrev pub AreServed : Mission → List Entry → List Known → List Known → Type 0
AreServed m h before now = (d : ℕ) (was is : Known) → slice_get before d ≡ Some was → slice_get now d ≡ Some is → IsServed m h d was is
