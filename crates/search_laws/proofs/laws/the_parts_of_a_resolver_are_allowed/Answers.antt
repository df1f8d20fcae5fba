use Rattle.plan_laws.proofs.ChainLemmas.{contained_at}
use Rattle.search_tree.specs.Flaws.{flaws}
use Rattle.search_tree.specs.Partial.{begin}
use Rattle.search_tree.specs.Parts.{do_parts}
use Rattle.search_tree.specs.Resolvers.{parts_of, resolvers}
use Rattle.search_laws.proofs.GoodLemmas.{allowed-append, good_all, good_root}
use Rattle.search_laws.proofs.TreeLemmas.{resolver_allowed}
use Rattle.search_laws.proofs.laws.the_parts_of_a_resolver_are_allowed.Goals as goal

pub returns : goal.returns
returns c = λ m b xs f r may allowed flaw listed.
    let p = do_parts (begin m b) xs in
    allowed-append m b (begin m b) xs (parts_of p f r) allowed (resolver_allowed m b p f r may (good_all m b (begin m b) xs allowed (good_root m b may)) (contained_at (flaws m b p) f flaw) (contained_at (resolvers m b p f) r listed))
