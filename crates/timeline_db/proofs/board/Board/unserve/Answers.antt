use Rattle.std.proofs.Common.{refl, rules}
use Rattle.timeline_db.proofs.board.Board.unserve.Goals as goal

pub returns : goal.returns
returns c = record {
  without_it = record c.args.self.now { supports = c.pop.new.self };
  keeps = record { lines = refl; supports = search rules; goals = refl; deferred = refl; points = refl; added = refl; total = refl };
  reopens = c.reopen.ensures;
}
