use Rattle.std.proofs.Common.{◌≡◌}
use Rattle.std.specs.List.{flat_map}
use Rattle.ddl_read.proofs.script.joined.Given as goal

abbrev pub invariant-parts : goal.invariant-parts
invariant-parts l = l.steps.items ≡ flat_map (λ part. part) l.yielded
