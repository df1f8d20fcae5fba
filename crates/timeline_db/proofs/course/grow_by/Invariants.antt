use Rattle.std.proofs.Common.{replicate}
use Rattle.stn_trail.specs.declared.part.Part.TheVariants.{Grown}
use Rattle.timeline_db.specs.Courses.{Gains}
use Rattle.timeline_db.proofs.course.grow_by.Given as goal

abbrev pub invariant-loop : goal.invariant-loop
invariant-loop l = Gains (replicate l.counter Grown) l.fn.trail l.trail
