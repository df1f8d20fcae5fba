use Rattle.net_tests.proofs.DispatchLemmas.{reduced_chain, reached_chain}
use Rattle.net_tests.proofs.dispatches.begin.Goals as goal

-- the network is the small one
pub begin-requires-clause-reduced : goal.begin-requires-clause-reduced
begin-requires-clause-reduced c = reduced_chain _ _ c.in_ok-flags.ensures c.in_ok-net.ensures

-- nothing but Z is executed
pub begin-requires-clause-reached : goal.begin-requires-clause-reached
begin-requires-clause-reached c = reached_chain _ _ c.in_ok-flags.ensures c.in_ok-net.ensures
