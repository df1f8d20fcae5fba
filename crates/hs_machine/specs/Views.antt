-- What the executive shows of its state: a snapshot for the planner, and a line for the worker of a timeline.
use Rattle.std.specs.Prelude.{ℕ, suc, ◌-◌, cond, ℤ, pos, List, [], ◌∷◌, length, map, flat_map, get_or, is_some, unwrap_or}
use Rattle.hs_base.specs.declared.mission.Kind.{Kind}
use Rattle.hs_base.specs.declared.plan.Time.{Time}
use Rattle.hs_base.specs.declared.mission.Horizon.{Horizon}
use Rattle.hs_base.specs.declared.plan.Extension.{Extension}
use Rattle.hs_base.specs.declared.mission.Mission.{Mission}
use Rattle.hs_machine.specs.Types.{Entry}
use Rattle.hs_base.specs.Schedule.{numbers_from}
use Rattle.hs_base.specs.Points.{ending, place_of, points_of, start_at, hor, tokens_of, timeline_of}
use Rattle.hs_base.specs.Bounds.{is_fixed, on_some}
use Rattle.hs_base.specs.Fits.{Times}
use Rattle.hs_base.specs.Snapshots.{Snapshot}
use Rattle.hs_machine.specs.State.{plan_of, count_at, executed, tick_at}

-- the point with its time, where it is executed
abbrev pub time_if : Times → ℕ → List Time
time_if at x = on_some (at x) (λ t. record { point = record { 0 = x }; at = t } ∷ [])

-- the executed points other than Z that no extension fixes, by point
abbrev pub newly_executed : List Entry → List Time
newly_executed h = flat_map (λ x. cond (is_fixed (plan_of h) x) [] (time_if (executed h) x)) (numbers_from 1 (count_at h - 1))

-- what a look sees
abbrev pub snapshot_of : Mission → List Entry → Snapshot
snapshot_of m h = record { mission = m; plan = plan_of h; since = tick_at h; fixed = newly_executed h; front = length h }

-- a timeline's current token with its end and the time of its start, the time now, the next horizon point, the
-- number of extensions and the newest horizon's tick
pub record Line : Type 0 where
  pub place : ℕ
  pub value : ℕ
  pub end : ℕ
  pub start : ℤ
  pub time : ℤ
  pub mark : ℕ
  pub plans : ℕ
  pub until : ℤ

-- the place of the first of the points that is not executed
abbrev pub first_waiting : Times → List ℕ → ℕ
first_waiting at [] = 0
first_waiting at (x ∷ xs) = cond (is_some (at x)) (suc (first_waiting at xs)) 0

-- the ends of a timeline's tokens, by place
abbrev pub ends_of : List Extension → ℕ → List ℕ
ends_of es v = map (λ i. place_of (ending v i) (points_of es)) (numbers_from 0 (length (timeline_of (tokens_of es) v)))

-- the horizon points, in order
abbrev pub marks_of : List Extension → List ℕ
marks_of es = map (hor es) (numbers_from 1 (length es))

-- what a line sees of the timeline of variable v
abbrev pub line_of : Mission → List Entry → ℕ → Line
line_of m h v =
    let es = plan_of h in
    let i = first_waiting (executed h) (ends_of es v) in
    record {
      place = i;
      value = get_or (map (λ (k : Kind). k.value.0) (timeline_of (tokens_of es) v)) i 0;
      end = place_of (ending v i) (points_of es);
      start = unwrap_or (executed h (start_at es v i)) (pos 0);
      time = tick_at h;
      mark = get_or (marks_of es) (first_waiting (executed h) (marks_of es)) 0;
      plans = length es;
      until = get_or (map (λ (g : Horizon). g.tick) m.horizons) (length es - 1) (pos 0);
    }
