use Rattle.std.proofs.Common.{rules}
use Rattle.local_propagate.proofs.FreshLemmas.{fresh_windows}
use Rattle.local_propagate.proofs.windows.Windows.fresh.Goals as goal

pub returns-clause-windows : goal.returns-clause-windows
returns-clause-windows c = fresh_windows c.args.net.now _ c.requires (search rules) (search rules) (search rules) c.in_ok-after.ensures c.in_ok-before.ensures (search rules)
