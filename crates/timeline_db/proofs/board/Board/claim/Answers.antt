use Rattle.std.proofs.Common.{refl, rules}
use Rattle.timeline_db.proofs.board.Board.claim.Goals as goal

pub returns : goal.returns
returns c = record {
  without_it = record c.args.self.now { deferred = c.pop.new.self };
  keeps = record { lines = refl; supports = refl; goals = refl; deferred = search rules; points = refl; added = refl; total = refl };
  reopens = c.reopen.ensures;
}
