-- What a planner is given.
use Rattle.std.specs.Prelude.{ℕ, ℤ, List}
use Rattle.hs_base.specs.Types.{Time, Extension, Mission}

-- a plan with its mission, the time, what was executed since, and the number of entries
pub record Snapshot : Type 0 where
  pub mission : Mission
  pub plan : List Extension
  pub since : ℤ
  pub fixed : List Time
  pub front : ℕ
