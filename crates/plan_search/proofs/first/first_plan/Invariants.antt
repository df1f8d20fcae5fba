use Rattle.plan_search.proofs.first.first_plan.Given as goal

abbrev pub ghosts-plan_alone : goal.ghosts-plan_alone
ghosts-plan_alone a = record { name = a.blank.name; parts = a.blank.parts }
