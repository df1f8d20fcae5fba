use Rattle.std.proofs.Common.{ℕ, ◌≡◌, ◌<◌, ◌≤◌, true}
use Rattle.timeline_db.specs.Boards.{token_of}
use Rattle.timeline_db.specs.Serving.{is_served_at}
use Rattle.timeline_db.proofs.board.Board.first_unmet.Given as goal

abbrev pub invariant-loop-need : goal.invariant-loop-need
invariant-loop-need l = record {
  token : l.token ≡ token_of l.self l.name;
  low : l.from ≤ l.need;
  served : (j : ℕ) → l.from ≤ j → j < l.need → is_served_at l.base l.self l.name l.token.held.stop j ≡ true;
}
