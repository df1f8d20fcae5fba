use Rattle.std.proofs.Common.{◌≤◌, length}
use Rattle.stn_trail.specs.Held.{Leaves}
use Rattle.stn_trail.proofs.trail.Trail.undo.Given as goal

abbrev pub invariant-parts : goal.invariant-parts
invariant-parts l = record {
  enough : l.mark ≤ length l.self.parts;
  fewer : length l.self.parts ≤ length l.fn.self.parts;
  left : Leaves (length l.self.parts) l.fn.self l.self;
}

abbrev pub decreases-parts : goal.decreases-parts
decreases-parts l = length l.self.parts
