use Rattle.search_tree.specs.Partial.{begin}
use Rattle.search_tree.specs.Parts.{do_parts}
use Rattle.search_laws.proofs.GoodLemmas.{good_all, good_root}
use Rattle.search_laws.proofs.LawfulLemmas.{lawful_all, root_lawful}
use Rattle.search_laws.proofs.RulesLemmas.{plan_checked}
use Rattle.search_laws.proofs.laws.a_partial_plan_without_flaw_gives_a_checked_plan.Goals as goal

pub returns : goal.returns
returns c = λ m b xs may allowed has flawless within. plan_checked m b (do_parts (begin m b) xs) has.schedule may (good_all m b (begin m b) xs allowed (good_root m b may)) (lawful_all m b (begin m b) xs allowed (good_root m b may) (root_lawful m b may)) within flawless has.meets
