-- What the lines of a state show.
use Rattle.std.specs.Prelude.{◌≡◌, ◌⊎◌, ℕ, ◌<◌, List, length}
use Rattle.hs_base.specs.declared.mission.Mission.{Mission}
use Rattle.hs_machine.specs.declared.history.Entry.{Entry}
use Rattle.hs_machine.specs.Views.{Line, line_of}

-- the point is the end or the horizon's point that the line of a timeline shows
pub record IsShown (m : Mission) (h : List Entry) (x : ℕ) : Type 0 where
  pub variable : ℕ
  pub there : variable < length m.vars
  pub is : (x ≡ (line_of m h variable).end) ⊎ (x ≡ (line_of m h variable).mark)

-- the lines show the same current token
pub record IsSameToken (k l : Line) : Type 0 where
  pub place : l.place ≡ k.place
  pub value : l.value ≡ k.value
  pub end : l.end ≡ k.end
  pub start : l.start ≡ k.start
