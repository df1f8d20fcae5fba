use Rattle.std.proofs.Common.{subst}
use Rattle.compat_resolve.specs.Applied.{MayDoParts}
use Rattle.search_tree.specs.Resolvers.{connecting}
use Rattle.search_tree.specs.declared.flaw.Flaw.{Flaw}
use Rattle.compat_resolve.proofs.applying.connect.Goals as goal

pub meet_goal-requires : goal.meet_goal-requires
meet_goal-requires c = (subst (λ (f : Flaw). MayDoParts c.args.db.now (connecting f c.args.by)) c.in-Goal.is c.requires.allowed).0.0

pub support-requires : goal.support-requires
support-requires c = (subst (λ (f : Flaw). MayDoParts c.args.db.now (connecting f c.args.by)) c.in-Need.is c.requires.allowed).0.0
