-- The reports of a device that a history tells.
use Rattle.std.specs.Prelude.{ℕ, false, Bool, cond, nat_eq, ℤ, pos, List, [], ◌∷◌, slice_get, Option, Some}
use Rattle.hs_base.specs.declared.mission.Kind.{Kind}
use Rattle.hs_base.specs.declared.plan.Extension.{Extension}
use Rattle.hs_base.specs.Walks.{join_after}
use Rattle.hs_base.specs.Points.{Point, ending, points_of, timeline_of, tokens_of}
use Rattle.hs_machine.specs.declared.history.Entry.{Entry}
use Rattle.hs_machine.specs.declared.history.Deed.{Deed}
use Rattle.hs_machine.specs.declared.history.Deed.TheVariants.{Report, Early}
use Rattle.hs_machine.specs.State.{now_of, plan_of}

-- the tokens of variable d, in order
abbrev pub timeline_in : List Extension → ℕ → List Kind
timeline_in es d = timeline_of (tokens_of es) d

-- the point is an end of timeline d
abbrev pub ends_of_line : ℕ → Option Point → Bool
ends_of_line d (Some (ending v i)) = nat_eq v d
ends_of_line d _ = false

-- the report of a point at the time of the history, if the point is an end of timeline d
abbrev pub report_of_line : ℕ → List Entry → ℕ → List (ℕ × ℤ)
report_of_line d before x = cond (ends_of_line d (slice_get (points_of (plan_of before)) x)) ((x, pos (now_of before)) ∷ []) []

-- the report of device d that a deed tells, whether it was taken or came early
abbrev pub report_by : ℕ → List Entry → Deed → List (ℕ × ℤ)
report_by d before (Report x) = report_of_line d before x.0
report_by d before (Early b) = report_of_line d before b.from.0
report_by d before _ = []

-- the reports of device d that a history tells, each with its tick
abbrev pub reports_in : List Entry → ℕ → List (ℕ × ℤ)
reports_in h d = join_after (λ before (e : Entry). report_by d before e.deed) [] h
