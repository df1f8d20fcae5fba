use Rattle.std.proofs.Common.{w64, FitsSigned, rules}
use Rattle.std.proofs.lemmas.Int.{to_z-of_z}
use Rattle.local_propagate.proofs.FreshLemmas.{least_stored}
use Rattle.local_propagate.proofs.windows.Windows.least_high.Goals as goal

pub returns-else-is_empty : goal.returns-else-is_empty
returns-else-is_empty c =
    let r = least_stored c.args._net.now c.args.self.now c.least.result c.requires c.least.ensures.bound c.least.ensures.reached in
    let fits : FitsSigned w64 c.least.result = search rules in
    record { bound = rw (to_z-of_z w64 c.least.result fits) r.bound; reached = rw (to_z-of_z w64 c.least.result fits) r.reached }
