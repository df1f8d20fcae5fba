-- The closing lines of commands.
use Rattle.std.specs.Prelude.{ℕ, List, ◌++◌, flat_map, codes}
use Rattle.std.specs.Fmt.{decimal}

abbrev pub usage_line : List ℕ
usage_line = codes "usage: hsts COMMAND [--budget N] [--seed N] [--size N]\n"

abbrev pub done_line : List ℕ
done_line = codes "done\n"

abbrev pub failed_line : List ℕ
failed_line = codes "failed\n"

abbrev pub device_fault_line : List ℕ
device_fault_line = codes "device fault\n"

abbrev pub clock_fault_line : List ℕ
clock_fault_line = codes "clock fault\n"

-- no plan was found, after that many entries
abbrev pub no_plan_line : ℕ → List ℕ
no_plan_line after = codes "no plan after " ++ decimal after ++ codes "\n"

-- the budget ended, after that many entries, and the path of the next node
abbrev pub budget_line : ℕ → List ℕ → List ℕ
budget_line after path = codes "budget after " ++ decimal after ++ codes " path" ++ flat_map (λ child. codes " " ++ decimal child) path ++ codes "\n"

-- so many extensions were checked
abbrev pub checked_line : ℕ → List ℕ
checked_line extensions = codes "ok " ++ decimal extensions ++ codes "\n"

-- what a drill did
abbrev pub drill_line : ℕ → ℕ → ℕ → ℕ → ℕ → List ℕ
drill_line horizons points fires reports now =
    codes "drill horizons " ++ decimal horizons ++ codes " points " ++ decimal points ++ codes " fires " ++ decimal fires
    ++ codes " reports " ++ decimal reports ++ codes " now " ++ decimal now ++ codes "\n"
