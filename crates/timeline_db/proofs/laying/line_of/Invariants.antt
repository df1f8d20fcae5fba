use Rattle.std.proofs.Common.{◌≡◌, map, take}
use Rattle.plan_index.specs.Lines.{kind_in}
use Rattle.timeline_db.specs.Laying.{laid_of}
use Rattle.timeline_db.proofs.laying.line_of.Given as goal

abbrev pub invariant-loop-placed : goal.invariant-loop-placed
invariant-loop-placed l = l.line ≡ laid_of l.index.points l.sv.0 (map (kind_in l.sv.0) (take l.placed-index l.row))
