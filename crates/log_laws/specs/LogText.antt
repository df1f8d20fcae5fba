-- The text of a history.
use Rattle.std.specs.Prelude.{ℕ, ◌+◌, List, [], ◌∷◌, ◌++◌, slice_get, Option, Some, None, codes}
use Rattle.std.specs.Fmt.{decimal, signed_decimal}
use Rattle.hs_base.specs.declared.plan.Extension.{Extension}
use Rattle.hs_base.specs.declared.mission.Mission.{Mission}
use Rattle.hs_machine.specs.declared.history.Deed.{Deed}
use Rattle.hs_machine.specs.declared.history.Entry.{Entry}
use Rattle.hs_machine.specs.declared.history.Phase.{Phase}
use Rattle.hs_machine.specs.declared.history.Deed.TheVariants.{Tick, Fire, Report, Handover, Stale, Late, Early, Broken}
use Rattle.hs_machine.specs.declared.history.Phase.TheVariants.{Waiting, Running, Failed, Ended}
use Rattle.hs_base.specs.Walks.{join_after}
use Rattle.hs_machine.specs.State.{now_of, plan_of, phase_of}
use Rattle.hs_base.specs.Points.{Point, origin, horizon, ending, points_of}
use Rattle.hs_texts.specs.Written.{variable_name, spelled_point, point_text, bound_text, body_text}
use Rattle.hs_texts.specs.NetText.{counts_text}

-- the time of an entry
abbrev pub at_text : ℕ → List ℕ
at_text now = codes " at " ++ decimal now

-- a fired point: `horizon 1` or `fire camera 0`
abbrev pub fired_text : Mission → Option Point → List ℕ
fired_text m None = []
fired_text m (Some (horizon k)) = codes "horizon " ++ decimal k
fired_text m (Some origin) = codes "fire " ++ spelled_point m origin
fired_text m (Some (ending v i)) = codes "fire " ++ spelled_point m (ending v i)

-- what an entry writes at that time, where es is the newest plan before it
abbrev pub deed_text : Mission → ℕ → List Extension → Deed → List ℕ
deed_text m now es Tick = []
deed_text m now es (Fire x) = fired_text m (slice_get (points_of es) x.0) ++ at_text now ++ codes "\n"
deed_text m now es (Report x) = codes "report " ++ point_text m es x.0 ++ at_text now ++ codes "\n"
deed_text m now es (Handover e net) =
    codes "handover " ++ decimal (e.base + 1) ++ at_text now ++ codes " " ++ counts_text net ++ codes "\n" ++ body_text m es e
deed_text m now es (Stale e b from to) =
    codes "stale " ++ decimal (e.base + 1) ++ at_text now ++ codes " bound " ++ bound_text m (es ++ e ∷ []) b
    ++ codes " times " ++ signed_decimal from ++ codes " " ++ signed_decimal to ++ codes "\n" ++ body_text m es e
deed_text m now es (Late b) = codes "late " ++ bound_text m es b ++ at_text now ++ codes "\n"
deed_text m now es (Early b) = codes "early " ++ bound_text m es b ++ at_text now ++ codes "\n"
deed_text m now es (Broken v) = codes "broken " ++ variable_name m v.0 ++ at_text now ++ codes "\n"

-- the word of a phase
abbrev pub phase_text : Phase → List ℕ
phase_text Waiting = codes "waiting"
phase_text Running = codes "running"
phase_text Failed = codes "failed"
phase_text Ended = codes "ended"

-- the last line: where the executive stopped, and when
abbrev pub stop_text : Phase → ℕ → List ℕ
stop_text phase now = codes "stop " ++ phase_text phase ++ at_text now ++ codes "\n"

-- what an entry writes behind those before it
abbrev pub entry_text : Mission → List Entry → Entry → List ℕ
entry_text m before e = deed_text m (now_of before) (plan_of before) e.deed

-- the log: each entry in its order, and where the executive stopped
abbrev pub log_text : Mission → List Entry → List ℕ
log_text m h = codes "hsts log 1\n" ++ join_after (entry_text m) [] h ++ stop_text (phase_of h) (now_of h)
