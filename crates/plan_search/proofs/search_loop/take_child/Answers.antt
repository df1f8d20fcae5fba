use Rattle.plan_search.proofs.TurnLemmas.{last_frame, step_open, step_shut}
use Rattle.plan_search.proofs.search_loop.take_child.Goals as goal

pub descend-requires-clause-mark : goal.descend-requires-clause-mark
descend-requires-clause-mark g c = (last_frame (g.F.Filter.test c.args.filter.now) c.args.db.now.mission c.args.db.now.begun c.args.db.now.parts c.args.frames.now c.args.frame c.args.taken c.requires.searched).mark

pub descend-requires-clause-head : goal.descend-requires-clause-head
descend-requires-clause-head g c = (last_frame (g.F.Filter.test c.args.filter.now) c.args.db.now.mission c.args.db.now.begun c.args.db.now.parts c.args.frames.now c.args.frame c.args.taken c.requires.searched).head

pub descend-requires-clause-listed : goal.descend-requires-clause-listed
descend-requires-clause-listed g c = (last_frame (g.F.Filter.test c.args.filter.now) c.args.db.now.mission c.args.db.now.begun c.args.db.now.parts c.args.frames.now c.args.frame c.args.taken c.requires.searched).listed

pub enter-requires-clause-reached : goal.enter-requires-clause-reached
enter-requires-clause-reached g c = step_open (g.F.Filter.test c.args.filter.now) c.args.db.now c.descend.new.db c.args.frames.now c.push.new.self c.args.frame c.in_ok-ahead.ahead c.args.taken c.requires.searched c.requires.next c.in_ok-ahead.ensures c.if-not-ahead.false c.in_ok-push.ensures

pub returns-then-not-ahead-clause-more : goal.returns-then-not-ahead-clause-more
returns-then-not-ahead-clause-more g c = step_shut (g.F.Filter.test c.args.filter.now) c.args.db.now c.descend.new.db c.args.frames.now c.push.new.self c.args.frame c.in_ok-ahead.ahead c.args.taken c.requires.searched c.requires.next c.in_ok-ahead.ensures c.if-not-ahead.true c.in_ok-push.ensures
