-- Which orders a script has given at a stage.
use Rattle.std.specs.Prelude.{◌≡◌, List, ◌++◌}
use Rattle.hs_base.specs.declared.mission.Step.{Step}
use Rattle.device_script.specs.Runs.{Orders, Stage, orders_in}

-- the script has come to this stage, having given these orders: they and those that are ready are the orders of the
-- steps that are passed
pub record HasCome (steps : List Step) (given : Orders) (s : Stage) : Type 0 where
  pub passed : List Step
  pub is : steps ≡ passed ++ s.left
  pub orders : given ++ s.ready ≡ orders_in passed
