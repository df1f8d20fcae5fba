-- How it is told that no plan was found.
use Rattle.std.specs.Prelude.{◌≡◌, ◌≢◌, ℕ, List, [], ◌++◌}
use Rattle.hs_texts.specs.ClosingText.{no_plan_line, budget_line}
use Rattle.plan_search.specs.declared.unplanned.Unplanned.{Unplanned}
use Rattle.plan_search.specs.declared.unplanned.Unplanned.TheVariants.{NoPlan as NoneAtAll, Budget as NodesEnded, Memory as NoMemoryLeft}
use Rattle.commands.specs.declared.status.Status.{Status}
use Rattle.commands.specs.declared.status.Status.TheVariants.{NoMemory, NoPlan, Budget}

abbrev pub status_of : Unplanned → Status
status_of NoneAtAll = NoPlan
status_of (NodesEnded path) = Budget
status_of NoMemoryLeft = NoMemory

abbrev pub line_of : Unplanned → List ℕ
line_of NoneAtAll = no_plan_line 0
line_of (NodesEnded path) = budget_line 0 path
line_of NoMemoryLeft = []

-- the status and a line behind the head tell why; want of memory is told by none
pub record IsToldWhy (why : Unplanned) (head : List ℕ) (status : Status) (text : List ℕ) : Type 0 where
  pub some : why ≢ NoMemoryLeft
  pub told : status ≡ status_of why
  pub line : text ≡ head ++ line_of why
