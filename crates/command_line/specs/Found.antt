-- The request that is read from values that were found, each under its name.
use Rattle.std.specs.Prelude.{Option, Some, None, option_and_then, codes}
use Rattle.command_line.specs.declared.request.Request.{Request}
use Rattle.command_line.specs.Words.{Word, budget_if_absent, budget_of, command_of, request_of}
use Rattle.command_line.specs.Words.{seed_if_absent, seed_of, size_if_absent, size_of}

-- what a value is read as, or the default where there is none
abbrev pub read_or : {X : Type 0} → X → (Word → Option X) → Option Word → Option X
read_or default read None = Some default
read_or default read (Some value) = read value

-- what the values ask for that stand under the four names
abbrev pub request_at : (Word → Option Word) → Option Request
request_at value_at = request_of (option_and_then command_of (value_at (codes "command")))
    (read_or budget_if_absent budget_of (value_at (codes "budget")))
    (read_or seed_if_absent seed_of (value_at (codes "seed")))
    (read_or size_if_absent size_of (value_at (codes "size")))
