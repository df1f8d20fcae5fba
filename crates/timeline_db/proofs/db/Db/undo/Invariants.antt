use Rattle.std.proofs.Common.{◌≡◌, ◌≤◌, length, take}
use Rattle.timeline_db.proofs.db.Db.undo.Given as goal

abbrev pub invariant-parts : goal.invariant-parts
invariant-parts l = record {
  mission : l.self.mission ≡ l.fn.self.mission;
  begun : l.self.begun ≡ l.fn.self.begun;
  parts : l.self.parts ≡ take (length l.self.parts) l.fn.self.parts;
  enough : l.mark ≤ length l.self.parts;
}

abbrev pub decreases-parts : goal.decreases-parts
decreases-parts l = length l.self.parts
