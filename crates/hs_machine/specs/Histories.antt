-- Histories grow at their end.
use Rattle.std.specs.Prelude.{◌≡◌, ◌⊎◌, ℕ, List, [], ◌∷◌, ◌++◌}
use Rattle.hs_machine.specs.declared.history.Entry.{Entry}

-- the second list begins with the first
abbrev pub IsPrefix : {E : Type 0} → List E → List E → Type 0
IsPrefix {E} xs ys = (rest : List E) × (ys ≡ xs ++ rest)

-- the history stays, or gains one entry of this pass
abbrev pub Appends : ℕ → List Entry → List Entry → Type 0
Appends by before after = (after ≡ before) ⊎ ((e : Entry) × (e.by ≡ by) × (after ≡ before ++ e ∷ []))
