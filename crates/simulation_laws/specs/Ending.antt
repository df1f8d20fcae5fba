-- With which entry a history ends.
use Rattle.std.specs.Prelude.{◌≡◌, ℕ, Bool, true, false, List, [], ◌∷◌, ◌++◌}
use Rattle.hs_machine.specs.declared.history.Deed.{Deed}
use Rattle.hs_machine.specs.declared.history.Deed.TheVariants.{Early, Broken}
use Rattle.hs_machine.specs.declared.history.Entry.{Entry}

-- its last entry has that deed
pub record EndsWith (h : List Entry) (deed : Deed) : Type 0 where
  pub before : List Entry
  pub by : ℕ
  pub is : h ≡ before ++ (record { by = by; deed = deed }) ∷ []

-- a deed by which a device ends a run: its report came early, or it failed
abbrev pub is_outcome : Deed → Bool
is_outcome (Early b) = true
is_outcome (Broken d) = true
is_outcome _ = false

-- a device ended the run
pub record EndsByDevice (h : List Entry) : Type 0 where
  pub deed : Deed
  pub ends : EndsWith h deed
  pub outcome : is_outcome deed ≡ true
