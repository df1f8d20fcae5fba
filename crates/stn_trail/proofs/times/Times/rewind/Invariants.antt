use Rattle.std.proofs.Common.{◌≡◌, ◌≤◌, length, take, drop}
use Rattle.stn_trail.specs.Moves.{restored}
use Rattle.stn_trail.proofs.times.Times.rewind.Given as goal

abbrev pub invariant-moves : goal.invariant-moves
invariant-moves l = record {
  enough : l.moves ≤ length l.self.moves.items;
  fewer : length l.self.moves.items ≤ length l.fn.self.moves.items;
  front : l.self.moves.items ≡ take (length l.self.moves.items) l.fn.self.moves.items;
  past : restored (drop l.moves l.self.moves.items) l.self.ticks.items ≡ restored (drop l.moves l.fn.self.moves.items) l.fn.self.ticks.items;
}

abbrev pub decreases-moves : goal.decreases-moves
decreases-moves l = length l.self.moves.items
