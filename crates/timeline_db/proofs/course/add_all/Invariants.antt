use Rattle.std.proofs.Common.{map, take}
use Rattle.stn_trail.specs.declared.part.Part.TheVariants.{Added}
use Rattle.timeline_db.specs.Courses.{Gains}
use Rattle.timeline_db.proofs.course.add_all.Given as goal

abbrev pub invariant-loop-bound : goal.invariant-loop-bound
invariant-loop-bound l = Gains (map (λ b. Added b) (take l.bound-index l.bounds)) l.fn.trail l.trail
