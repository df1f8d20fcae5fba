-- What the code's answer says.
use Rattle.hs_base.specs.declared.plan.Extension.{Extension}
use Rattle.plan_search.specs.declared.found.Found.{Found}
use Rattle.plan_search.specs.declared.found.Found.TheVariants.{Budget, NoPlan, Plan}
use Rattle.search_tree.specs.Tree as tree

abbrev pub told : Found → tree.Found Extension
told (Plan e) = tree.plan e
told NoPlan = tree.no_plan
told (Budget path) = tree.budget path
