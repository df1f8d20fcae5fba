-- What a simulated device says, and when.
use Rattle.std.specs.Prelude.{◌≡◌, ℕ, ℤ, pos, ◌+ℤ◌, ◌≤ℤ◌, zero, suc, List, [], ◌∷◌, ◌++◌, map, set, get_or}
use Rattle.hs_base.specs.declared.ids.WordId.{WordId}
use Rattle.hs_base.specs.declared.mission.Said.{Said}
use Rattle.hs_base.specs.declared.mission.Value.{Value}
use Rattle.hs_base.specs.declared.mission.Var.{Var}
use Rattle.hs_port.specs.declared.device.Answer.{Answer}
use Rattle.hs_port.specs.declared.device.Answer.TheVariants.{Quiet, Said as Heard}
use Rattle.hs_port.specs.declared.device.Order.{Order}
use Rattle.hs_port.specs.declared.device.Order.TheVariants.{Begin, Do}

-- the clauses of a value's answers, each with the words that are said
abbrev pub Clauses : Type 0
Clauses = List (List Said)

-- what a device has to say: for each value its clauses from the one of its next token on, the words of the running
-- clause that are left, and the tick of its begin
pub record Saying : Type 0 where
  pub values : List Clauses
  pub left : List Said
  pub since : ℤ

-- the words of the next clause
abbrev pub next_clause : Clauses → List Said
next_clause [] = []
next_clause (clause ∷ clauses) = clause

-- the clauses from the one after it on; the last one stays
abbrev pub clauses_after : Clauses → Clauses
clauses_after [] = []
clauses_after (clause ∷ []) = clause ∷ []
clauses_after (clause ∷ next ∷ clauses) = next ∷ clauses

-- the clauses after so many begins
abbrev pub clauses_behind : ℕ → Clauses → Clauses
clauses_behind zero clauses = clauses
clauses_behind (suc begins) clauses = clauses_behind begins (clauses_after clauses)

-- a device with nothing to say
abbrev pub silent : Saying
silent = record { values = []; left = []; since = pos 0 }

-- a device that has the answers of a variable, and says nothing yet
abbrev pub loaded : Var → Saying
loaded var = record { values = map (λ (v : Value). v.answers) var.values; left = []; since = pos 0 }

-- a token of a value begins: the value's next clause is to be said from now on
abbrev pub begins : ℕ → ℤ → Saying → Saying
begins value now s = record {
  values = set s.values value (clauses_after (get_or s.values value []));
  left = next_clause (get_or s.values value []);
  since = now;
}

-- after an order: a step that is to be done changes nothing
abbrev pub told : Order → Saying → Saying
told (Begin value now) s = begins value.0 now s
told (Do word amount now) s = s

-- the delay of a word is over
abbrev pub IsDue : ℤ → ℤ → Said → Type 0
IsDue since now word = (since +ℤ word.delay) ≤ℤ now

-- no word is due
abbrev pub IsQuiet : ℤ → ℤ → List Said → Type 0
IsQuiet since now [] = Unit {0}
IsQuiet since now (word ∷ words) = IsDue since now word → ⊥

-- the next word is said, as its delay is over, and nothing else changes
pub record Says (s : Saying) (now : ℤ) (word : WordId) (after : Saying) : Type 0 where
  pub delay : ℤ
  pub next : s.left ≡ record { delay = delay; word = word } ∷ after.left
  pub due : (s.since +ℤ delay) ≤ℤ now
  pub rest : after ≡ record s { left = after.left }

-- what a poll hears, and what is left to be said after it
abbrev pub Answers : Saying → ℤ → Answer → Saying → Type 0
Answers s now Quiet after = IsQuiet s.since now s.left × (after ≡ s)
Answers s now (Heard word) after = Says s now word after

-- of a clause these words were heard, and the others are left, in order
pub record HasHeard (clause : List Said) (heard : List WordId) (s : Saying) : Type 0 where
  pub said : List Said
  pub is : clause ≡ said ++ s.left
  pub words : heard ≡ map (λ (word : Said). word.word) said
