-- What contracts see of an executive.
use Rattle.std.specs.Prelude.{ℕ, List, [], ◌∷◌, ◌++◌}
use Rattle.hs_base.specs.declared.mission.Mission.{Mission}
use Rattle.hs_machine.specs.declared.history.Entry.{Entry}
use Rattle.hs_machine.specs.declared.history.Deed.{Deed}
use Rattle.hs_machine.specs.Machine.{Event, Reply, Replies, IsLeftBy}

-- a mission, and the entries so far
pub record Recorded : Type 0 where
  pub mission : Mission
  pub history : List Entry

-- the same with one more entry, of this pass and with this deed
abbrev pub recording : Recorded → ℕ → Deed → Recorded
recording r by deed = record { mission = r.mission; history = r.history ++ (record { by = by; deed = deed }) ∷ [] }

-- the machine answers some event so, and leaves the deed
pub record MayRecord (r : Recorded) (d : Deed) : Type 0 where
  pub event : Event
  pub reply : Reply
  pub lawful : Replies r.mission r.history event reply
  pub left : IsLeftBy r.mission d event reply
