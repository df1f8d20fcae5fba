use Rattle.compat_resolve.proofs.ApplyLemmas.{listed_allowed, listed_some}
use Rattle.compat_resolve.proofs.applying.apply.Goals as goal

pub do_parts-requires-clause-allowed : goal.do_parts-requires-clause-allowed
do_parts-requires-clause-allowed c = listed_allowed c.args.db.now c.args.flaw c.args.resolver.now c.was_allowed.ensures.begins c.was_allowed.ensures.allowed c.requires.flaw c.requires.listed

pub do_parts-requires-clause-some : goal.do_parts-requires-clause-some
do_parts-requires-clause-some c = listed_some c.args.db.now c.args.flaw c.args.resolver.now c.requires.listed
