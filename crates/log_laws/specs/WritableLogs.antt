-- Histories whose logs can be read back, and what these logs write.
use Rattle.std.specs.Prelude.{◌≡◌, ℕ, ◌<◌, pos, neg_ℤ, ◌≤ℤ◌, List, [], ◌∷◌, ◌++◌, length, map, slice_get, Some, ⊤}
use Rattle.hs_base.specs.declared.limits.TheConstants.{LAST}
use Rattle.hs_base.specs.declared.mission.Mission.{Mission}
use Rattle.hs_base.specs.declared.net.Bound.{Bound}
use Rattle.hs_base.specs.declared.plan.Extension.{Extension}
use Rattle.hs_machine.specs.declared.history.Deed.{Deed}
use Rattle.hs_machine.specs.declared.history.Deed.TheVariants.{Tick, Fire, Report, Handover, Stale, Late, Early, Broken}
use Rattle.hs_machine.specs.declared.history.Entry.{Entry}
use Rattle.hs_base.specs.Missions.{IsMission}
use Rattle.hs_base.specs.Ranges.{range, whole, InRange}
use Rattle.hs_base.specs.Walks.{EachAfter}
use Rattle.hs_base.specs.Points.{ending, count, points_of}
use Rattle.hs_machine.specs.State.{now_of, plan_of, phase_of}
use Rattle.hs_texts.specs.Written.{variable_name}
use Rattle.hs_texts.specs.KeptTexts.{IsKeptText}
use Rattle.text_laws.specs.WritablePlans.{IsWritableExtension, written_at, written_extension}
use Rattle.log_laws.specs.declared.written.WrittenBound.{WrittenBound}
use Rattle.log_laws.specs.declared.written.WrittenDeed.{WrittenDeed}
use Rattle.log_laws.specs.declared.written.WrittenDeed.TheVariants.{Handover as handed, Stale as went_stale, Fire as fired, Report as reported, Late as too_late, Early as too_early, Broken as broke}
use Rattle.log_laws.specs.declared.written.WrittenEntry.{WrittenEntry}
use Rattle.log_laws.specs.declared.written.WrittenLog.{WrittenLog}
use Rattle.log_laws.specs.LogGrammar.{LogGrammar}

-- both points are points of the plan, and the weight is one that bounds have
pub record IsWritableBound (es : List Extension) (b : Bound) : Type 0 where
  pub from : b.from.0 < count es
  pub to : b.to.0 < count es
  pub most : InRange (range (neg_ℤ LAST) LAST) b.most

-- the point ends a token
abbrev pub IsTokenEnd : List Extension → ℕ → Type 0
IsTokenEnd es p = (v : ℕ) × (i : ℕ) × (slice_get (points_of es) p ≡ Some (ending v i))

-- the points of a deed are points of the plan
abbrev pub IsWritableDeed : Mission → List Extension → Deed → Type 0
IsWritableDeed m es Tick = ⊤
IsWritableDeed m es (Fire x) = (0 < x.0) × (x.0 < count es)
IsWritableDeed m es (Report x) = IsTokenEnd es x.0
IsWritableDeed m es (Handover e net) = IsWritableExtension m es e × (pos (length net.groups) ≤ℤ LAST) × (pos (length net.edges) ≤ℤ LAST)
IsWritableDeed m es (Stale e b from to) = IsWritableExtension m es e × IsWritableBound (es ++ e ∷ []) b × InRange whole from × InRange whole to
IsWritableDeed m es (Late b) = IsWritableBound es b
IsWritableDeed m es (Early b) = IsWritableBound es b
IsWritableDeed m es (Broken v) = v.0 < length m.vars

-- an entry behind those before it
pub record IsWritableEntry (m : Mission) (before : List Entry) (e : Entry) : Type 0 where
  pub now : pos (now_of before) ≤ℤ LAST
  pub deed : IsWritableDeed m (plan_of before) e.deed

pub record IsWritableHistory (m : Mission) (h : List Entry) : Type 0 where
  pub mission : IsMission m
  pub now : pos (now_of h) ≤ℤ LAST
  pub each : EachAfter (IsWritableEntry m) [] h

-- The history with names in place of numbers.

abbrev pub written_bound : Mission → List Extension → Bound → WrittenBound
written_bound m es b = record { from = written_at m (points_of es) b.from.0; to = written_at m (points_of es) b.to.0; most = b.most }

-- a deed, where es is the newest plan before it; a tick isn't written
abbrev pub written_deeds : Mission → List Extension → Deed → List WrittenDeed
written_deeds m es Tick = []
written_deeds m es (Fire x) = fired (written_at m (points_of es) x.0) ∷ []
written_deeds m es (Report x) = reported (written_at m (points_of es) x.0) ∷ []
written_deeds m es (Handover e net) = handed (written_extension m es e) (length net.groups) (length net.edges) ∷ []
written_deeds m es (Stale e b from to) = went_stale (written_extension m es e) (written_bound m (es ++ e ∷ []) b) from to ∷ []
written_deeds m es (Late b) = too_late (written_bound m es b) ∷ []
written_deeds m es (Early b) = too_early (written_bound m es b) ∷ []
written_deeds m es (Broken v) = broke (variable_name m v.0) ∷ []

abbrev pub written_entry : ℕ → WrittenDeed → WrittenEntry
written_entry now deed = record { at = pos now; deed = deed }

-- entries behind those before them
abbrev pub written_entries : Mission → List Entry → List Entry → List WrittenEntry
written_entries m before [] = []
written_entries m before (e ∷ h) = map (written_entry (now_of before)) (written_deeds m (plan_of before) e.deed) ++ written_entries m (before ++ e ∷ []) h

abbrev pub written_log : Mission → List Entry → WrittenLog
written_log m h = record { entries = written_entries m [] h; phase = phase_of h; at = pos (now_of h) }

-- the pieces from number i on are a log's text
abbrev pub IsLogText : Mission → List ℕ → ℕ → WrittenLog → Type 0
IsLogText m bytes i l = IsKeptText (LogGrammar m) bytes i l
