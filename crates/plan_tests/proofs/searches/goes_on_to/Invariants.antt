use Rattle.plan_tests.proofs.searches.goes_on_to.Given as goal

abbrev pub ghosts-untaken : goal.ghosts-untaken
ghosts-untaken a = record { name = a.blank.name; parts = a.blank.parts }
