-- How a whole text is read and written.
use Rattle.std.specs.Prelude.{◌⊎◌, ℕ, ◌<◌, List, length, take}
use Rattle.std.specs.declared.option.Option.{Option}
use Rattle.std.specs.Io.KnownBytes.{Appends, Consumes, IsAtEnd}
use Rattle.hs_port.specs.Causes.{Rose}
use Rattle.hs_base.specs.declared.limits.TheConstants.{TEXT_BYTES}

-- known bytes grow by a front of the text
abbrev pub AppendsFront : Option (List ℕ) → Option (List ℕ) → List ℕ → Type 0
AppendsFront old new text = (n : ℕ) × Appends old new (take n text)

-- the text was written, or a front of it and a fault was counted
abbrev pub IsWritten : Option (List ℕ) → Option (List ℕ) → ℕ → ℕ → List ℕ → Type 0
IsWritten old new faults faults_after text = Appends old new text ⊎ (AppendsFront old new text × Rose faults faults_after)

-- these bytes were read: to the end, or until they were more than an input may have
pub record Reads (old new : Option (List ℕ)) (bytes : List ℕ) : Type 0 where
  pub taken : Consumes old new bytes
  pub whole : IsAtEnd new ⊎ (TEXT_BYTES < length bytes)
