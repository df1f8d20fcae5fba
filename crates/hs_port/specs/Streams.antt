-- How bytes move.
use Rattle.std.specs.Prelude.{ℕ, ◌<◌, List, length, Result, IfOk}

-- a piece that isn't empty loses a byte at least
abbrev pub GoesOn : {E : Type 0} → Result ℕ E → List ℕ → Type 0
GoesOn result piece = IfOk result (λ n. 0 < length piece → 0 < n)
