-- What a call and the end make of a shared core.
use Rattle.std.specs.Prelude.{◌≡◌, ℕ, List, ◌++◌, length}
use Rattle.hs_machine.specs.declared.history.Entry.{Entry}
use Rattle.hs_base.specs.declared.mission.Mission.{Mission}
use Rattle.hs_machine.specs.Histories.{IsPrefix, Appends}
use Rattle.exec_lock.specs.declared.shared.Shared.{Shared}
use Rattle.exec_lock.specs.declared.view.View.{View}
use Rattle.exec_lock.specs.Passes.{Which, placed, of, called}

-- which shared core it is
abbrev pub which : {X E R : Type 0} → Shared X E R → Which
which shared = shared.table.shared.table_id

-- the core as it was when it was shared
abbrev pub core_shared : {X E R : Type 0} → Shared X E R → X
core_shared shared = shared.table.shared.key.value

-- one call: the pass had seen a prefix of the history when it got the turn, the core's step made of
-- that history what the pass then has seen, and the pass has the entry that was added, if one was
pub record Calls (Turn : List Entry → List Entry → Type 0) (before after : View) : Type 0 where
  pub history : List Entry
  pub begins : IsPrefix before.seen history
  pub turn : Turn history after.seen
  pub appended : Appends before.first history after.seen
  pub view : after ≡ called before history after.seen

module _ {X : Type 0} (mission_of : X → Mission) (history_of : X → List Entry) where
  -- the core x at the end, where a pass answers for every number: its history begins with that of
  -- the core that was shared, and with what the pass has seen; its later entries of each number are
  -- just the calls of that number, each at its place
  pub record Ends (begun : X) (pass : View) (x : X) : Type 0 where
    pub opening : mission_of x ≡ mission_of begun
    pub later : List Entry
    pub history : history_of x ≡ history_of begun ++ later
    pub seen : IsPrefix pass.seen (history_of x)
    pub own : (n : ℕ) → of n (placed (length (history_of begun)) later) ≡ of n pass.calls
