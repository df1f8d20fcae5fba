-- What the fields of the simulated device have to say.
use Rattle.std.specs.Prelude.{ℕ, ℤ, pos, Option, Some, None, List, [], map, drop, get_or, Vec}
use Rattle.std.specs.declared.alloc.Global.{Global}
use Rattle.hs_base.specs.declared.mission.Said.{Said}
use Rattle.device_script.specs.Sayings.{Clauses, Saying}
use Rattle.device_script.specs.declared.told.Turns.{Turns}
use Rattle.device_script.specs.declared.told.Running.{Running}
use Rattle.device_script.specs.declared.told.Told.TheInside.{Inside}

-- the clauses of a value from the next one on
abbrev pub coming : Turns → Clauses
coming t = drop t.next t.clauses

-- those of each value
abbrev pub all_coming : Option (Vec Turns Global) → List Clauses
all_coming None = []
all_coming (Some values) = map coming values.items

-- the words of a clause of a value
abbrev pub words_at : Option (Vec Turns Global) → ℕ → ℕ → List Said
words_at None value clause = []
words_at (Some values) value clause = get_or (get_or (map (λ (t : Turns). t.clauses) values.items) value []) clause []

-- the words of the running clause that are left
abbrev pub left_of : Option (Vec Turns Global) → Option Running → List Said
left_of values None = []
left_of values (Some running) = drop running.spoken (words_at values running.value running.clause)

-- the tick of its begin
abbrev pub since_of : Option Running → ℤ
since_of None = pos 0
since_of (Some running) = running.begun

-- what all fields have to say
abbrev pub saying_of : Inside → Saying
saying_of told = record { values = all_coming told.values; left = left_of told.values told.running; since = since_of told.running }
