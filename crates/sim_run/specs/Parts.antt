-- What a part of a tick does with one device.
use Rattle.std.specs.Prelude.{◌≡◌, ◌≢◌, ◌⊎◌, ℕ, ◌-◌, ◌<◌, ℤ, List, [], ◌∷◌, length, MatchBool, true, Option, Some, None}
use Rattle.hs_base.specs.declared.ids.PointId.{PointId}
use Rattle.hs_base.specs.declared.ids.SvId.{SvId}
use Rattle.hs_base.specs.declared.mission.Mission.{Mission}
use Rattle.hs_base.specs.declared.mission.Value.{Value}
use Rattle.hs_base.specs.declared.net.Bound.{Bound}
use Rattle.hs_base.specs.declared.net.Net.{Net}
use Rattle.hs_base.specs.declared.plan.Extension.{Extension}
use Rattle.hs_machine.specs.declared.history.Deed.TheVariants.{Broken, Early, Fire, Handover, Late, Report, Tick}
use Rattle.hs_machine.specs.declared.history.Entry.{Entry}
use Rattle.hs_machine.specs.Machine.{Replies, done, failed, fire, is_over, report, tick}
use Rattle.hs_machine.specs.State.{now_of, phase_of}
use Rattle.hs_machine.specs.Views.{line_of}
use Rattle.hs_machine.specs.Reports.{Script}
use Rattle.hs_port.specs.Causes.{Rose}
use Rattle.device_script.specs.Runs.{Stage, begun}
use Rattle.plan_check.specs.Planned.{Planned}
use Rattle.exec_core.specs.Recorded.{Recorded, recording}
use Rattle.simulation_laws.specs.Ending.{EndsByDevice, EndsWith}
use Rattle.simulation_laws.specs.Planned.{IsOfOnePlan}
use Rattle.simulation_laws.specs.Standing.{HasJustBegun, IsOpen, Standing}
use Rattle.sim_run.specs.Told.{HasAnswered, HasTold, Known}
use Rattle.sim_run.specs.Manned.{AreManned, AreWatched, IsManned, IsServed, IsWatched, rests}
use Rattle.sim_run.specs.Moves.{GoesFurther, GoesOn, IsGoing, IsOver, IsRun, KeepsOthers}
use Rattle.sim_run.specs.declared.asking.Heard.{Heard}
use Rattle.sim_run.specs.declared.asking.Heard.TheVariants.{On, Finished, Failed}
use Rattle.sim_run.specs.declared.post.Post.{Post}
use Rattle.sim_run.specs.declared.watch.Watch.{Watch}

-- the device was asked at the tick of the run, which goes on
pub record IsAsked (w : ℕ) (old new : Recorded) (before now : Known) (post : Post) : Type 0 where
  pub goes_on : GoesOn old new
  pub going : IsGoing new
  pub same_tick : now_of new.history ≡ now_of old.history
  pub others : KeepsOthers old.mission old.history new.history w
  pub manned : IsManned (HasJustBegun (now_of old.history)) old.mission new.history w (now_of old.history) before now post

-- the device ended the run
pub record HasEnded (w : ℕ) (old new : Recorded) (before now : Known) : Type 0 where
  pub goes_on : GoesOn old new
  pub is_run : IsRun new
  pub over : is_over (phase_of new.history) ≡ true
  pub same_tick : now_of new.history ≡ now_of old.history
  pub by_device : EndsByDevice new.history
  pub others : KeepsOthers old.mission old.history new.history w
  pub served : IsServed old.mission new.history w before now
  pub broken : (v : SvId) → EndsWith new.history (Broken v) → (v.0 ≡ w) × Rose before.faults now.faults

-- a device's script goes up to that end, which is open
pub record IsAwaited (end : PointId) (r : Recorded) : Type 0 where
  pub device : ℕ
  pub script : Script
  pub opens : IsOpen r.mission r.history device script
  pub ends : script.point ≡ end.0

-- the end was reported, which was answered by Done
pub record IsReported (end : PointId) (old new : Recorded) : Type 0 where
  pub is : new ≡ recording old 0 (Report end)
  pub lawful : Replies old.mission old.history (report end.0) done

-- it came too early, which ended the run
pub record ComesEarly (end : PointId) (old new : Recorded) : Type 0 where
  pub bound : Bound
  pub is : new ≡ recording old 0 (Early bound)
  pub lawful : Replies old.mission old.history (report end.0) (failed bound)
  pub from : bound.from.0 ≡ end.0

-- the point was fired, which was answered by Done
pub record IsFired (point : PointId) (old new : Recorded) : Type 0 where
  pub is : new ≡ recording old 0 (Fire point)
  pub lawful : Replies old.mission old.history (fire point.0) done

-- a device at a poll: it answered, and its script goes on or has finished, or it failed before or after its answer
abbrev pub IsHeard : Heard → Known → Known → Stage → Stage → ℤ → Type 0
IsHeard On before now old new at = HasAnswered before now old new at × (new.left ≢ [])
IsHeard Finished before now old new at = HasAnswered before now old new at × (new.left ≡ [])
IsHeard Failed before now old new at = (HasTold before now [] ⊎ (HasAnswered before now old new at × (new.left ≢ []))) × Rose before.faults now.faults

-- the script of a value, if a device ends its tokens
abbrev pub IsScriptOf : Option Value → Option Stage → Type 0
IsScriptOf None script = script ≡ None
IsScriptOf (Some v) script = MatchBool v.by_device (script ≡ Some (begun v.script)) (script ≡ None)

-- its post watches the end of the current token, and its device runs the token's script, if that has one
pub record IsLookedAt (w : ℕ) (old new : Recorded) (before now : Known) (post : Post) : Type 0 where
  pub same : new ≡ old
  pub manned : IsManned rests old.mission old.history w (now_of old.history) before now post
  pub watched : IsWatched old.mission old.history w post

-- with the posts of its timelines, a run's devices stand at its tick
pub record IsCrewed (idles : Standing → Type 0) (r : Recorded) (before now : List Known) (posts : List Post) : Type 0 where
  pub going : IsGoing r
  pub posts_are : length posts ≡ length r.mission.vars
  pub now_are : length now ≡ length posts
  pub before_are : length before ≡ length posts
  pub manned : AreManned 0 (length posts) idles r.mission r.history (now_of r.history) before now posts

-- all timelines were looked at
pub record AreLookedAt (old new : Recorded) (before now : List Known) (posts : List Post) : Type 0 where
  pub same : new ≡ old
  pub crewed : IsCrewed rests old before now posts
  pub watched : AreWatched 0 (length posts) old.mission old.history posts

-- all that may be fired next is watched
abbrev pub Watches : Mission → List Entry → Watch → Type 0
Watches m h w = AreWatched 0 (length w.posts.items) m h w.posts.items × (w.mark.0 ≡ (line_of m h 0).mark)

-- and all that may be fired next is watched
pub record IsReady (r : Recorded) (before now : List Known) (w : Watch) : Type 0 where
  pub crewed : IsCrewed rests r before now w.posts.items
  pub watches : Watches r.mission r.history w

-- a tick has come since its devices were asked
pub record IsTicked (r : Recorded) (before now : List Known) (w : Watch) : Type 0 where
  pub going : IsGoing r
  pub tick : 0 < now_of r.history
  pub posts_are : length w.posts.items ≡ length r.mission.vars
  pub now_are : length now ≡ length w.posts.items
  pub before_are : length before ≡ length w.posts.items
  pub manned : AreManned 0 (length w.posts.items) rests r.mission r.history (now_of r.history - 1) before now w.posts.items
  pub watches : Watches r.mission r.history w

-- nothing was done with the point, which may not be fired
pub record IsRefused (point : PointId) (old new : Recorded) (watch watch_after : Watch) (now now_after : List Known) : Type 0 where
  pub same : new ≡ old
  pub watch_is : watch_after ≡ watch
  pub known_is : now_after ≡ now
  pub unlawful : Replies old.mission old.history (fire point.0) done → ⊥

-- a tick went by
pub record HasTicked (old new : Recorded) : Type 0 where
  pub is : new ≡ recording old 0 Tick
  pub goes_further : GoesFurther old new
  pub going : IsGoing new

-- a device's report was late, which ended the run
pub record IsLate (old new : Recorded) : Type 0 where
  pub bound : Bound
  pub is : new ≡ recording old 0 (Late bound)
  pub lawful : Replies old.mission old.history tick (failed bound)

-- a run that has only begun, with this extension
pub record IsBegun (r : Recorded) (extension : Extension) : Type 0 where
  pub net : Net
  pub is : r.history ≡ (record { by = 0; deed = Handover extension net }) ∷ []
  pub going : IsGoing r

-- an executive to which the plan was handed over first
pub record IsLaunched (p : Planned) (r : Recorded) : Type 0 where
  pub mission : r.mission ≡ p.mission
  pub extension : Extension
  pub plan : p.plan.extensions ≡ extension ∷ []
  pub begun : IsBegun r extension

-- the run of the plan, in which its devices told this
pub record IsFlown (p : Planned) (before now : List Known) (r : Recorded) : Type 0 where
  pub mission : r.mission ≡ p.mission
  pub extension : Extension
  pub plan : p.plan.extensions ≡ extension ∷ []
  pub one : IsOfOnePlan r.history extension
  pub over : IsOver before now r
