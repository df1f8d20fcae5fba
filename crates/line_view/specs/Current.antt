-- The current token of a timeline.
use Rattle.std.specs.Prelude.{◌≡◌, ℕ, ◌<◌, List, length, None, Some}
use Rattle.hs_machine.specs.declared.history.Entry.{Entry}
use Rattle.hs_base.specs.declared.mission.Mission.{Mission}
use Rattle.hs_base.specs.Points.{start_at, timeline_of, tokens_of}
use Rattle.hs_machine.specs.State.{executed, plan_of}
use Rattle.hs_machine.specs.Views.{line_of}

-- the line shows a token of the timeline, which has started and hasn't ended
pub record HasCurrent (m : Mission) (h : List Entry) (v : ℕ) : Type 0 where
  pub there : (line_of m h v).place < length (timeline_of (tokens_of (plan_of h)) v)
  pub started : executed h (start_at (plan_of h) v (line_of m h v).place) ≡ Some (line_of m h v).start
  pub waits : executed h (line_of m h v).end ≡ None
