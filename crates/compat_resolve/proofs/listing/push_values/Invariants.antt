use Rattle.std.proofs.Common.{◌++◌, ◌≡◌, map, take}
use Rattle.search_tree.specs.declared.flaw.Resolver.TheVariants.{Follow}
use Rattle.compat_resolve.proofs.listing.push_values.Given as goal

abbrev pub invariant-loop-value : goal.invariant-loop-value
invariant-loop-value l = l.list ≡ l.fn.list ++ map (λ n. Follow n) (take l.value-index l.next)
