use Rattle.std.proofs.Common.{◌≡◌, take}
use Rattle.hs_base.specs.Points.{timeline_of}
use Rattle.plan_check.specs.Lines.{last_value}
use Rattle.plan_check.proofs.tokens.last_of.Given as goal

abbrev pub invariant-loop-kind : goal.invariant-loop-kind
invariant-loop-kind l = l.last ≡ last_value (timeline_of (take l.kind-index l.tokens) l.sv.0)
