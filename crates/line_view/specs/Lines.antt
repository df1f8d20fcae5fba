-- What is shown of a timeline.
use Rattle.std.specs.Prelude.{ℕ, ◌-◌, ℤ, pos, List, length, map, get_or, unwrap_or}
use Rattle.hs_base.specs.declared.mission.Horizon.{Horizon}
use Rattle.hs_base.specs.declared.mission.Kind.{Kind}
use Rattle.hs_base.specs.declared.mission.Mission.{Mission}
use Rattle.hs_base.specs.declared.plan.Extension.{Extension}
use Rattle.hs_base.specs.Fits.{Times}
use Rattle.hs_base.specs.Points.{ending, place_of, points_of, start_at, timeline_of, tokens_of}
use Rattle.hs_machine.specs.Views.{ends_of, first_waiting, marks_of}
use Rattle.hs_machine.specs.Views as views
use Rattle.line_view.specs.declared.shown.Line.{Line}

-- a line as that of the machine
abbrev pub line_seen : Line → views.Line
line_seen l = record { place = l.place; value = l.value.0; end = l.end.0; start = l.start; time = l.time; mark = l.mark.0; plans = l.plans; until = l.until }

-- the place of the first token that hasn't ended
abbrev pub place_in : List Extension → Times → ℕ → ℕ
place_in es at v = first_waiting at (ends_of es v)

-- the value of the token at a place
abbrev pub value_in : List Extension → ℕ → ℕ → ℕ
value_in es v i = get_or (map (λ (k : Kind). k.value.0) (timeline_of (tokens_of es) v)) i 0

-- the first horizon's point that is not executed
abbrev pub mark_in : List Extension → Times → ℕ
mark_in es at = get_or (marks_of es) (first_waiting at (marks_of es)) 0

-- the newest horizon's tick
abbrev pub until_in : Mission → List Extension → ℤ
until_in m es = get_or (map (λ (g : Horizon). g.tick) m.horizons) (length es - 1) (pos 0)

-- the line of a variable, of a plan and the times of its dispatch, at a tick
abbrev pub line_in : Mission → List Extension → Times → ℤ → ℕ → views.Line
line_in m es at tick v =
    let i = place_in es at v in
    record {
      place = i;
      value = value_in es v i;
      end = place_of (ending v i) (points_of es);
      start = unwrap_or (at (start_at es v i)) (pos 0);
      time = tick;
      mark = mark_in es at;
      plans = length es;
      until = until_in m es;
    }
