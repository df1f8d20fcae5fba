use Rattle.std.proofs.Common.{◌≡◌, take}
use Rattle.hs_base.specs.Checked.{Checked}
use Rattle.commands.proofs.checking.check_each.Given as goal

abbrev pub invariant-loop-place : goal.invariant-loop-place
invariant-loop-place l = record {
  mission : l.checker.mission ≡ l.mission;
  plan : l.checker.plan.extensions ≡ take l.place l.extensions;
  checked : Checked l.mission (take l.place l.extensions);
}
