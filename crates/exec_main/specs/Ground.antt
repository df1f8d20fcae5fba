-- What the words ask for, and what is due to be written.
use Rattle.std.specs.Prelude.{◌≡◌, ◌⊎◌, ℕ, List, map, ⊤, Some}
use Rattle.std.specs.declared.option.Option.{Option}
use Rattle.std.specs.String.{string_bytes}
use Rattle.std.specs.declared.string.String.{String}
use Rattle.std.specs.declared.alloc.Global.{Global}
use Rattle.std.specs.Io.KnownBytes.{Appends}
use Rattle.command_line.specs.Words.{words_of}
use Rattle.command_line.specs.declared.request.Command.{Command}
use Rattle.command_line.specs.declared.request.Command.TheVariants.{Print, Plan, Check, Net, Sim, Drill, Fly}
use Rattle.command_line.specs.declared.request.Request.{Request}
use Rattle.simulation_laws.specs.Ended.{Heard}
use Rattle.commands.specs.Statuses.{code_of}
use Rattle.commands.specs.Prints.{Prints}
use Rattle.commands.specs.Checks.{Checks}
use Rattle.commands.specs.Plans.{Plans, Nets}
use Rattle.commands.specs.Sims.{Sims}
use Rattle.commands.specs.declared.status.Status.{Status}
use Rattle.commands.specs.declared.status.Status.TheVariants.{Done, Refused, NoPlan, Budget, PlanFailed, DeviceFault, PlanRefused, WriteFault}
use Rattle.exec_main.specs.Streams.{AppendsFront, Reads}

-- what a command makes of an input, with so many nodes for a search, and devices that told this
abbrev pub Makes : Command → ℕ → List Heard → List ℕ → Status → List ℕ → Type 0
Makes Print nodes heard = Prints
Makes Check nodes heard = Checks
Makes Plan nodes heard = Plans nodes
Makes Net nodes heard = Nets nodes
Makes Sim nodes heard = Sims nodes heard
Makes _ nodes heard = λ bytes status text. ⊥

-- what is made of an input that the words ask for
abbrev pub Answers : Request → List Heard → List ℕ → Status → List ℕ → Type 0
Answers q = Makes q.command q.budget

-- the commands that are built
abbrev pub IsBuilt : Command → Type 0
IsBuilt Drill = ⊥
IsBuilt Fly = ⊥
IsBuilt _ = ⊤

-- the words ask for this, and its command is built
pub record AsksFor (words : List (String Global)) (request : Request) : Type 0 where
  pub asked : words_of (map string_bytes words) ≡ Some request
  pub built : IsBuilt request.command

-- the words ask for none of them
abbrev pub AsksForNone : List (String Global) → Type 0
AsksForNone words = (q : Request) → AsksFor words q → ⊥

-- the statuses that a command's answer may have
abbrev pub IsAnswer : Status → Type 0
IsAnswer Done = ⊤
IsAnswer Refused = ⊤
IsAnswer NoPlan = ⊤
IsAnswer Budget = ⊤
IsAnswer PlanFailed = ⊤
IsAnswer DeviceFault = ⊤
IsAnswer PlanRefused = ⊤
IsAnswer _ = ⊥

-- known bytes grow by the text, or by a front of it with a write fault
abbrev pub Writes : ℕ → Status → Option (List ℕ) → Option (List ℕ) → List ℕ → Type 0
Writes result status old new text = ((result ≡ code_of status) × Appends old new text) ⊎ ((result ≡ code_of WriteFault) × AppendsFront old new text)

-- a text is written with its status, of which this holds
abbrev pub WritesSuch : (Status → List ℕ → Type 0) → ℕ → Option (List ℕ) → Option (List ℕ) → Type 0
WritesSuch What result old new = (status : Status) × (text : List ℕ) × What status text × Writes result status old new text

-- the input was read, and this is made of it, with devices that told this
pub record IsDue (q : Request) (heard : List Heard) (left left_after : Option (List ℕ)) (status : Status) (text : List ℕ) : Type 0 where
  pub bytes : List ℕ
  pub read : Reads left left_after bytes
  pub answers : Answers q heard bytes status text

-- what is due was written, with its status
pub record Delivers (q : Request) (heard : List Heard) (result : ℕ) (left left_after taken taken_after : Option (List ℕ)) : Type 0 where
  pub status : Status
  pub text : List ℕ
  pub due : IsDue q heard left left_after status text
  pub written : Writes result status taken taken_after text
