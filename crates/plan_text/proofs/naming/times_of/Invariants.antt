use Rattle.std.proofs.Common.{◌≡◌, List}
use Rattle.hs_base.specs.declared.plan.Extension.{Extension}
use Rattle.hs_texts.specs.PlanSpelling.{TimeMeans, unknown_in_time}
use Rattle.plan_index.specs.Contents.{contents_of}
use Rattle.plan_text.proofs.NamingLemmas.{LookedUp}
use Rattle.plan_text.proofs.naming.times_of.Given as goal

abbrev pub invariant-loop-time : goal.invariant-loop-time
invariant-loop-time l = (es : List Extension) → l.index ≡ contents_of es → LookedUp (TimeMeans l.mission es) (unknown_in_time l.mission) l.written l.time-index l.times
